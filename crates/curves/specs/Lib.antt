pub mod Bends
pub mod Parting
pub mod Steps
pub mod Terms

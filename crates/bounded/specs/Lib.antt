pub mod Mitigation
pub mod Tabled
pub mod Layered
pub mod Kept

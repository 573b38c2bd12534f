pub mod Weighing
pub mod Listing
pub mod Objecting

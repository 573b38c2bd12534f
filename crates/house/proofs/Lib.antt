pub mod Booked
pub mod Owed

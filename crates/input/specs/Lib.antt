pub mod Booked
pub mod Order
pub mod Stops

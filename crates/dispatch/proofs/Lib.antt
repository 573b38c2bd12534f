pub mod Exchange
pub mod Reach

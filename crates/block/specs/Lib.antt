pub mod Blocks
pub mod Rules
pub mod Offers

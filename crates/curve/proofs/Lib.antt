pub mod Floor
mod Kept
pub mod Sound
pub mod Straight

pub mod Heard
pub mod Lawful
pub mod Sound

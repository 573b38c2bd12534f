pub mod Lines
pub mod Laid

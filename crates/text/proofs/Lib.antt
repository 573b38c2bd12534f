pub mod Kept
pub mod Copied
pub mod Widths

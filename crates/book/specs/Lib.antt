pub mod Gathered
pub mod Meaning
pub mod Sides
pub mod Span

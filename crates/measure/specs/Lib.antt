pub mod Listed
pub mod Widest
pub mod Answers

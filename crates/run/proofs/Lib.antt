pub mod Answered
pub mod Held
pub mod Judged
pub mod Stays
pub mod Termed
pub mod Turns

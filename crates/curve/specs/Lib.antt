pub mod Line
pub mod Listed
pub mod Complete

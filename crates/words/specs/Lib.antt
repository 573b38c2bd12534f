pub mod Digits
pub mod Reasons
pub mod Next
pub mod Plain

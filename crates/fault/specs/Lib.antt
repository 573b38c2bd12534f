pub mod Codes
pub mod Refusal
pub mod First
pub mod Rules

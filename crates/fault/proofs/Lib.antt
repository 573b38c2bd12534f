pub mod First
pub mod Written
pub mod Rules

pub mod Classes
pub mod Rules

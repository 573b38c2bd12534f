pub mod Base
pub mod Injected

pub mod First
pub mod Places
pub mod Checks
pub mod Stages
pub mod Failing

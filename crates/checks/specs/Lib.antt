pub mod Pointed
pub mod Proposed
pub mod Causes

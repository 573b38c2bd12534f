pub mod State
pub mod Declined
pub mod After
pub mod History
pub mod Law

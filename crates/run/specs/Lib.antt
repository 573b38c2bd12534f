pub mod View
pub mod Called
pub mod Judged
pub mod Played
pub mod Worth

pub mod Entries
pub mod Numbers
pub mod Priced
pub mod Rows
pub mod Terms

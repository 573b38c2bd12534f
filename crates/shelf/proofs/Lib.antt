pub mod Lists
pub mod Product
pub mod Quotient
pub mod Sum

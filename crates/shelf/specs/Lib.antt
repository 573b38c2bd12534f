pub mod Quotient
pub mod Sum

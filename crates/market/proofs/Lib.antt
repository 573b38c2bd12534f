pub mod Certificate
pub mod Filled
pub mod Fronts
pub mod Identity
pub mod Totals
pub mod Walks

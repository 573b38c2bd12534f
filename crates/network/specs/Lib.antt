pub mod Grid
pub mod Sheet
pub mod Table
pub mod Ranged

pub mod Fair
pub mod Feasible
pub mod First
pub mod Listed
pub mod Signs

pub mod Best
pub mod Laws
pub mod Market
pub mod Priced
pub mod Quoted
pub mod Walks

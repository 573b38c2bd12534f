pub mod Unit
pub mod House
pub mod HouseOffersLemmas

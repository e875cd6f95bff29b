pub mod CountLemmas
pub mod InputLemmas
pub mod PlaceLemmas
pub mod SetLemmas
pub mod SetSearch
pub mod TotalLemmas

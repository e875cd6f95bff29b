pub mod Lowest
pub mod NewNumberLemmas
pub mod ProductLemmas
pub mod Sides

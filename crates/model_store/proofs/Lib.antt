pub mod StoreLemmas
pub mod WeightStores

pub mod Settings
pub mod ModelStores
pub mod Weights

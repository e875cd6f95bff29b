pub mod Heads
pub mod View
pub mod OfTypeSimples

pub mod Simples
pub mod View

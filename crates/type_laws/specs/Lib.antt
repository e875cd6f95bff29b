pub mod Behaves

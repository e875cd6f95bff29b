pub mod Fitting
pub mod Trees
mod Tops

pub mod Four
pub mod GoingOn
pub mod Tops
pub mod Trees
pub mod Undone

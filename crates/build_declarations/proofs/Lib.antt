pub mod DeclarationFits
pub mod ProgramFits
mod Tops

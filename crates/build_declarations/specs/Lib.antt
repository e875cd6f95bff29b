pub mod MadeDeclarations
pub mod MadePrograms

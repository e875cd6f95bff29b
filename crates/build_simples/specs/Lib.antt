pub mod MadeSimples

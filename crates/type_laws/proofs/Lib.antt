pub mod Allowed
pub mod Contexts
pub mod Forms
pub mod Trees

pub mod Arguments
pub mod Roots
pub mod Doing
pub mod Builtins
pub mod Functions
pub mod Methods
pub mod View

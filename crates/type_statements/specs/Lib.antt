pub mod Inside
pub mod Statements
pub mod View
pub mod OfTypeHeads

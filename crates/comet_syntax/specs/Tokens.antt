-- The tokens of a text.
pub mod Comment
pub mod Front
pub mod StringLiteral
pub mod TokenFault
pub mod TokenList

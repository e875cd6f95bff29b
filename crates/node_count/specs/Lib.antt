pub mod After
pub mod Standing

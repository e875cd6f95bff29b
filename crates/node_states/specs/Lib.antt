pub mod Elsewhere
pub mod NumberInput
pub mod Step

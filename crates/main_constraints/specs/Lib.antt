pub mod AllEqual
pub mod Increasing
pub mod WholeRule

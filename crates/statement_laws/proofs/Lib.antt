pub mod Parts
pub mod Leaves
pub mod Bodies
pub mod Trees

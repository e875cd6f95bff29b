pub mod Bins
pub mod Levels
pub mod LevelsOver
pub mod Parts
pub mod Products
pub mod Windows

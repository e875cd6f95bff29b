pub mod Vectors
pub mod Building
pub mod Variables
pub mod Plain
pub mod Naming
pub mod OfLayerPlan

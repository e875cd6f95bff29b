pub mod Extremes
pub mod Lowering
pub mod Mirror
pub mod OrderedCounts
pub mod PlaceIndex

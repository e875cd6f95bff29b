pub mod Few
pub mod Found
pub mod OneReading
pub mod TypeStops

pub mod KeptCode
pub mod KeptOf
pub mod KeptRule
pub mod Moving
pub mod PostedState

-- One file for each constraint: its violations, the violation at a place, and its rule as a node.
pub mod AllDifferent
pub mod AllOf
pub mod AnyOf
pub mod AtLeast
pub mod AtMost
pub mod Exactly
pub mod Knapsack
pub mod MultiKnapsack
pub mod NotHeld
pub mod Relations
pub mod Repeat
pub mod Sequence
pub mod WeightedTotal

pub mod Graphs
pub mod LeastFaults
pub mod Links
pub mod Members
pub mod Outcomes
pub mod Taken
pub mod Totals
pub mod WholeGraphs

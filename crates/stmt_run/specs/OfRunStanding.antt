-- What callers cite of run_standing.
pub use Rattle.run_standing.specs.Seen

-- What callers cite of run_outside.
pub use Rattle.run_standing.specs.OfRunOutside.HandedIn

-- What callers cite of run_outside.
pub use Rattle.run_outside.specs.HandedIn
pub use Rattle.run_outside.specs.Told

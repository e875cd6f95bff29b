-- What callers cite of run_outside.
pub use Rattle.run_state.specs.OfRunOutside.Told

-- What callers cite of run_state.
pub use Rattle.run_state.specs.Views

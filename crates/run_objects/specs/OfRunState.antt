-- What callers cite of run_state.
pub use Rattle.run_state.specs.Acts
pub use Rattle.run_state.specs.InTerms
pub use Rattle.run_state.specs.Plain
pub use Rattle.run_state.specs.SearchActs
pub use Rattle.run_state.specs.Targets
pub use Rattle.run_state.specs.Views
pub use Rattle.run_state.specs.declared

-- What callers cite of run_state.
pub use Rattle.run_objects.specs.OfRunState.InTerms
pub use Rattle.run_objects.specs.OfRunState.SearchActs
pub use Rattle.run_objects.specs.OfRunState.Targets
pub use Rattle.run_objects.specs.OfRunState.Views
pub use Rattle.run_objects.specs.OfRunState.declared

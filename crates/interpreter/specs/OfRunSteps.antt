-- What callers cite of run_steps.
pub use Rattle.run_steps.specs.Does
pub use Rattle.run_steps.specs.Views
pub use Rattle.run_steps.specs.declared

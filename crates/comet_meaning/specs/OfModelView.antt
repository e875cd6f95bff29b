-- What callers cite of model_view.
pub use Rattle.model_view.specs.Building
pub use Rattle.model_view.specs.Plain
pub use Rattle.model_view.specs.Vectors

-- What callers cite of model_values.
pub use Rattle.model_values.specs.declared

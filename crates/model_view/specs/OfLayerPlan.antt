-- What callers cite of layer_plan.
pub use Rattle.layer_plan.specs.Dependencies

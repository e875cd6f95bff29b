-- What callers cite of run_outside.
pub use Rattle.run_objects.specs.OfRunOutside.Told

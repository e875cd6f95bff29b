-- What callers cite of type_simples.
pub use Rattle.type_simples.specs.Simples

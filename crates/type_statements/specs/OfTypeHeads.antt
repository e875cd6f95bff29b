-- What callers cite of type_heads.
pub use Rattle.type_heads.specs.Heads

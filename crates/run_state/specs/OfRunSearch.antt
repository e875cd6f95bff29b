-- What callers cite of run_search.
pub use Rattle.run_search.specs.Searches

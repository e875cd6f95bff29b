-- What callers cite of run_search.
pub use Rattle.run_objects.specs.OfRunSearch.Searches

pub mod AfterLemmas
pub mod CountTurns
pub mod ElementLemmas

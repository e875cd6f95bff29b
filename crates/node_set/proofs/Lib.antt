pub mod BagLemmas
pub mod Combined
pub mod EditLemmas
pub mod KeysWhere
pub mod NumberTurns
pub mod Probes

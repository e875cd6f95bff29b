pub mod KeptLaws
mod MoveLemmas

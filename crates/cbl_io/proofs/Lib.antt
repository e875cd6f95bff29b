pub mod AppendedLemmas
pub mod FindLemmas
pub mod FrontLemmas
pub mod TimesLemmas

mod AllEqualLaw
mod Falling
mod IncreasingLaw
mod MostEqual
mod MoveLemmas

pub mod OfRunSteps

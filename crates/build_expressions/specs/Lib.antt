pub mod Made
pub mod MadeArguments
pub mod MadeGenerators
pub mod MadeLevels
pub mod MadeOperands

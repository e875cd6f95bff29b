pub mod VariableViolations

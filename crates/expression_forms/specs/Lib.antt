pub mod UserSteps

mod AnyOrder
mod NumberKinds
mod SetSteps
mod Steps

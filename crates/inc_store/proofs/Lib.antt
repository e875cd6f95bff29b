pub mod CommitEnd
pub mod CourseStep
pub mod CourseTurn
pub mod Keeping
pub mod Limits
pub mod MapEntries
pub mod MoveSteps
pub mod NodeLists

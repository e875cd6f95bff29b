pub mod Asked
pub mod Given
pub mod InForm
pub mod InRange
pub mod Items
pub mod Options
pub mod Values
pub mod View

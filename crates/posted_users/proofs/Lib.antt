pub mod KeptLaws
pub mod ChangeLaws

pub mod BestLaws
pub mod JoinLaws
pub mod ScanLaws

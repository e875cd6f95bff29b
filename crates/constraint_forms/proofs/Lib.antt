pub mod MemberRows
pub mod JoinLaws
pub mod CallLaws
pub mod TestLaws

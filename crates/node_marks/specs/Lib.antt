pub use Rattle.member_table.specs.MemberTable
pub mod NodeMarks
pub mod MarkLaws

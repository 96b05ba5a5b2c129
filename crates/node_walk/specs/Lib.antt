pub use Rattle.node_marks.specs.MemberTable
pub use Rattle.tell_ask_visits.specs.TellAskLaws
pub mod NodeVisits
pub mod NodeVisitLaws

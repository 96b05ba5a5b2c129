pub mod UnexploredMembers
pub mod UnexploredCount

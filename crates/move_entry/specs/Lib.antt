pub use Rattle.packing.specs.Lists
pub use Rattle.packing.specs.Members
pub use Rattle.number_lists.specs.NumberLists
pub use Rattle.member_table.specs.TableInPart

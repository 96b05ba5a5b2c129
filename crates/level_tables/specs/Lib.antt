pub mod Numbers
pub mod Pairs
pub mod ThreadLists
pub mod PairLaws
pub mod ThreadListLaws

pub mod AllNumberLaws

pub mod GatheredConclusions
pub mod GatheredLaws

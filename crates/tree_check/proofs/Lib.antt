pub mod StageLemmas
pub mod TreeStages
pub mod NodeLemmas
pub mod RootLemmas

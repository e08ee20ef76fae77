pub mod EdgeLemmas
pub mod DrawnLemmas
pub mod GroupStages
pub mod VerdictLemmas

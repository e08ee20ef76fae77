pub mod RunLemmas
pub mod SomeRuns

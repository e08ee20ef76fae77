pub mod CostLemmas
pub mod RuleLemmas
pub mod PartLemmas
pub mod LackLemmas
pub mod HeadLemmas
pub mod RunLemmas
mod Examples

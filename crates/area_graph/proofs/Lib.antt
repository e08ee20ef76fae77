pub mod WeightLemmas
pub mod LengthLemmas
pub mod BorderLemmas
pub mod TouchLemmas
pub mod ListedLemmas
pub mod PlanLemmas
pub mod OneLists
pub mod OneProblem
mod Examples

pub mod PartLemmas
pub mod HopelessLemmas
pub mod RegionLemmas
pub mod OneEachLemmas
pub mod OrderSteps
pub mod TallySteps
pub mod StartSteps
pub mod BestSteps

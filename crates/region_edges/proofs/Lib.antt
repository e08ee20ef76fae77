pub mod CountLemmas
pub mod GatherLemmas
pub mod SweepLemmas
pub mod PointLemmas
pub mod MeetLemmas

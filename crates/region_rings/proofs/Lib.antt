pub mod Underway
pub mod SideLemmas
pub mod StepLemmas
pub mod MarkLemmas
pub mod SpokeLemmas
pub mod TurnLemmas
pub mod CycleLemmas
pub mod ChoiceLemmas
pub mod RankLemmas
pub mod CourseLemmas
pub mod RestLemmas
pub mod DrawLemmas
pub mod ExitLemmas
pub mod FoundLemmas
pub mod LeftLemmas
mod Examples

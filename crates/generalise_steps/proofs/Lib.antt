pub mod LineLemmas
pub mod MapLemmas
pub mod FrameLemmas
pub mod WithinLemmas
pub mod StepLemmas
pub mod CoverLaws
pub mod LoadLemmas
pub mod RefusalLemmas

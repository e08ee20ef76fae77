pub mod NumberLemmas
pub mod CutLemmas
pub mod LineLemmas
pub mod WordLemmas
pub mod SourceLemmas
pub mod Others
pub mod SourceState
pub mod PlainLemmas
pub mod AgainLemmas
pub mod TreeLemmas
pub mod HeadLemmas
pub mod SpellingLemmas
pub mod SameLemmas
pub mod FirstFaultLemmas
pub mod LawLemmas
pub mod BridgeLemmas
mod Examples

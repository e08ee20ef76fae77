pub mod LabelLemmas
pub mod TallyLemmas
pub mod WalkLemmas

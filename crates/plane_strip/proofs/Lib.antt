pub mod StripLemmas
pub mod MidLemmas
pub mod CoverLemmas
pub mod LeastLemmas

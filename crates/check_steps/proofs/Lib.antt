pub mod FlawLines
pub mod SameTrees
pub mod SameVerdicts
pub mod CaseLemmas
pub mod ReadLemmas

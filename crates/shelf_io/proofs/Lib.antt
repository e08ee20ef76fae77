pub mod HeldLemmas
pub mod NameLemmas
pub mod ByteLemmas

mod TreeSpellings
mod SpellingLemmas
mod StateLemmas
pub mod AscentLemmas

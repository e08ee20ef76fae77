-- one meaning for one value
pub mod OneArea
-- lists of features
pub mod Parts
-- rules that are broken or kept
pub mod Rules
pub mod Decided
pub mod Outlines
pub mod Features
-- loops of the reader
pub mod RingLemmas
pub mod PositionLemmas
pub mod LoopLemmas
pub mod Within
pub mod CollectionLemmas
pub mod ReaderLemmas
pub mod ReadLemmas
-- laws
pub mod LawLemmas
-- worked examples
mod Examples

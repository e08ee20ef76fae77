-- one map for one value
pub mod OneLayer
-- rules in their order, and lists of what keeps them
mod Exact
mod ExactLists
-- what is decided of values
mod Decide
mod DecideHead
mod Forms
mod Closed
mod Edges
-- one map or one first fault
mod ExactArcs
mod ExactPlaces
mod PlaceLists
pub mod Faulty
-- worked examples
mod Pieces
mod Examples
mod Refused
-- values one at a time
mod TreeLists
mod PointLemmas
mod FormLemmas
mod HeadLemmas
-- paths, thinned arcs, and what indexes tell of them
mod PathLemmas
mod StepLemmas
mod ThinLemmas
mod IndexLemmas
mod AreaLemmas
-- what reading answers
mod TellLemmas
mod WholeLemmas
mod LoopLemmas
mod PlaceLemmas
mod Within
mod ReadLemmas

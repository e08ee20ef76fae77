-- lists
pub mod ListLemmas
pub mod PartLemmas
pub mod OrderLemmas
-- rings, their edges and their steps
pub mod EdgeLemmas
pub mod OneLemmas
pub mod RoundLemmas
pub mod CountLemmas
-- shells, and the holes in them
pub mod ExtentLemmas
pub mod ShellLemmas
pub mod ReachLemmas
pub mod HoleLemmas
-- polygons
pub mod SlotLemmas
pub mod PolygonLemmas
-- the map
pub mod BorderLemmas
pub mod DrawLemmas
mod Examples
pub mod LeftLemmas

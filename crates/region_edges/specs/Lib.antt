pub mod RegionEdges
pub mod Gathering
pub mod PointSets

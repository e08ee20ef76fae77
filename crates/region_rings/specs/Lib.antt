pub mod RegionRings
pub mod Sides
pub mod Spokes
pub mod Turning
pub mod Ways
pub mod Exits
pub mod Walks
pub mod LeftWalks

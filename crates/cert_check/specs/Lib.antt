pub mod Edges
pub mod Stops
pub mod Groups
pub mod Drawings
pub mod Verdicts
pub mod Laws

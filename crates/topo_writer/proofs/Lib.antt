-- texts as they are pushed
pub mod Counted
pub mod Pieces
pub mod Numerals
-- the tree that a text spells
pub mod MapTree
pub mod TreeText
-- the areas that a tree spells
pub mod RingPoints
pub mod MapTopology
pub mod MapAreas
-- the whole map
pub mod MapSpelled
pub mod Writable
mod Examples

pub mod Tips
pub mod Shapes
pub mod Growth
pub mod Trees
pub mod Components
pub mod Outcomes
pub mod Searches
pub mod Enough

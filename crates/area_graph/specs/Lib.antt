pub mod Lengths
pub mod Weights
pub mod Problems
pub mod Steps
pub mod GraphLaws

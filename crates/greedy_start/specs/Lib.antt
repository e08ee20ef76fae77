pub mod Choices
pub mod Orders
pub mod Starts
pub mod Tallies

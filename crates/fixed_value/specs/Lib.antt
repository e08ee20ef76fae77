pub mod Components
pub mod Walks

pub mod Frames
pub mod Layers
pub mod Members
pub mod Classes
pub mod Positions
pub mod Measured

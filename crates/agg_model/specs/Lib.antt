pub mod Problem
pub mod Parts
pub mod Rules
pub mod Lacks
pub mod Tops

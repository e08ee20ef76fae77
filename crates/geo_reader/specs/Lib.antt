pub mod Features
pub mod Areas
pub mod Collections
pub mod Adds
pub mod Rules
pub mod Faults
pub mod Held
pub mod Outcomes

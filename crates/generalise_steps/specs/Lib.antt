pub mod FaultLines
pub mod MapTexts
pub mod Halts
pub mod Loads
pub mod Refusals
pub mod LoadLaws

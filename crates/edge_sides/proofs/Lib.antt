pub mod Ranks
pub mod Parts
pub mod Meetings
pub mod Around
pub mod Below
pub mod Level
pub mod Balance
pub mod SideTests
pub mod Onward
mod Examples
pub mod LeftPaths

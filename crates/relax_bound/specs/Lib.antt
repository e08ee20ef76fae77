pub mod Ascents
pub mod Levels
pub mod Leads
pub mod Climbs

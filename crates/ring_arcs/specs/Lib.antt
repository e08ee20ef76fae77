pub mod Rings
pub mod RingArcs
pub mod Ways
pub mod Breaks
pub mod Chains
pub mod Turning
pub mod Numbers

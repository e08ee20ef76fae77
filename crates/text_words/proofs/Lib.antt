pub mod Digits
pub mod FirstByte
pub mod WordCuts

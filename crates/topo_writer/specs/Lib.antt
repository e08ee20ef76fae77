pub mod MapText
pub mod Drawing

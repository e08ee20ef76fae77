pub mod Lines
pub mod TreeTexts
pub mod CertTexts
pub mod Gives

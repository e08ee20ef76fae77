pub mod Domains
pub mod Scratch
pub mod Scratches
pub mod Escapes
pub mod Offers

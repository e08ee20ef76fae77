pub mod Laws
pub mod Ring
pub mod Signs
pub mod Sizes
pub mod Sums

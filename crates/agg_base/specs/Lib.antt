pub mod Lines
pub mod Numbers
pub mod Root
pub mod Texts
pub mod Lists

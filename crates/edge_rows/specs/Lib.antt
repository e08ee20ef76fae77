pub mod Pieces
pub mod Beside
pub mod Cutting
pub mod Banks
pub mod Whole

pub mod Taking
pub mod Pieces
pub mod Alike
pub mod Reading
pub mod Upholding
pub mod Sendings
pub mod Playing
pub mod Whole

pub mod Kinds
pub mod Rows
pub mod Entered
pub mod Sales
pub mod Limits
pub mod Classes
pub mod Texts

pub mod Texts
pub mod Reading

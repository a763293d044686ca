pub mod Fields
pub mod Letters
pub mod Reading

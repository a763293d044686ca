pub mod Faults
pub mod Letters
pub mod Fields
pub mod Calls
pub mod Texts

pub mod Phases
pub mod Table

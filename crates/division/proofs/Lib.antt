pub mod Words
pub mod Numbers
pub mod Tasks
pub mod Lines

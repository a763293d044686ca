pub mod Examples
pub mod Files
pub mod Table

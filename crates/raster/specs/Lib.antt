pub mod Path
pub mod Tracing
pub mod Table

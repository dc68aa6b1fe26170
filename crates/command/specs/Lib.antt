pub mod Commands
pub mod Kinds
pub mod Table

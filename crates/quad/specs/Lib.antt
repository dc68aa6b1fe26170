pub mod Quads
pub mod Stack
pub mod Table

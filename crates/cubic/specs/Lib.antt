pub mod Cubics
pub mod Depth
pub mod Table

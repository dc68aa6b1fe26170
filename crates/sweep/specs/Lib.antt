pub mod Pixels
pub mod Rows
pub mod Masks
pub mod Table

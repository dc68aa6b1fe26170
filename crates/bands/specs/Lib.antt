pub mod InBands
pub mod Steps
pub mod Cutting

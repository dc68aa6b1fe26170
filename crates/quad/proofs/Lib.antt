pub mod Doubling
pub mod Points
pub mod Depths
pub mod Stack
mod Drawing
mod Skipping

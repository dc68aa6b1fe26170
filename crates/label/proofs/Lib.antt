pub mod Sizes
pub mod Pouring
pub mod Drawing
mod Celling

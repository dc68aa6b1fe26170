pub mod Refusals
pub mod Inputs
pub mod Reading
pub mod Strokes
pub mod Storing
pub mod Pouring
pub mod Table

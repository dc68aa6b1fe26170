pub mod Cuts
pub mod Exact
pub mod Range
pub mod Values
pub mod Stored

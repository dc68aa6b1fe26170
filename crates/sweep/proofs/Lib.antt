pub mod Bytes
pub mod Runs
pub mod Spans
pub mod Sweeps
pub mod Lines
pub mod Mask

pub mod Differences
pub mod Bits
pub mod Cut
pub mod Round
pub mod Table

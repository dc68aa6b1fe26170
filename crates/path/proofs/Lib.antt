pub mod Points
pub mod Walk
pub mod Telling
pub mod Tracking
pub mod Pouring

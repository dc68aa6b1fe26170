pub mod Fixed
pub mod Points
pub mod Scaled
pub mod Split
pub mod Table

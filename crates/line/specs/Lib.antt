pub mod Range
pub mod Walk
pub mod Lines
pub mod Course
pub mod Trail
pub mod Table

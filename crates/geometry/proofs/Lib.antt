pub mod Signs
pub mod Reach
pub mod Sides

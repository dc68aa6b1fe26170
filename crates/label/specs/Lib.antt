pub mod Checks
pub mod Draw
pub mod Inking
pub mod Table

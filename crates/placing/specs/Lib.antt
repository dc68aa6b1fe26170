pub mod Placing
pub mod Numbers
pub mod Measuring
pub mod Table

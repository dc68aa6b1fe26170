pub mod Marks
pub mod Table
pub mod Laws
pub mod Drawing

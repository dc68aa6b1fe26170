pub mod Deposits
pub mod Table
pub mod Laws
pub mod Cells
pub mod Answers
pub mod Storing

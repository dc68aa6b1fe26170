pub mod Records
pub mod Written
pub mod Table
pub mod Commands

pub mod Accepted
pub mod Growing
pub mod Near
pub mod Offset
pub mod Answers

pub mod Agreeing
pub mod Reading

pub mod Moved
pub mod Verbs

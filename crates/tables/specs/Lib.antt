pub mod Lists
pub mod Tried
pub mod Table
pub mod Trials
pub mod Values
pub mod Turned

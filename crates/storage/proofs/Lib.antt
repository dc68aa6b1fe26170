pub mod Words
pub mod Places
pub mod Sums
pub mod Linked
pub mod Walk
pub mod Held
pub mod Stores
pub mod Pools

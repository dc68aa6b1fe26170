pub mod Affine
pub mod Bits
pub mod Box
pub mod Placing
pub mod Held
pub mod Table

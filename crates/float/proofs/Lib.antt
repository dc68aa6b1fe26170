pub mod Differences
pub mod Fractions
pub mod Fields
pub mod Fitting
pub mod Rounding
pub mod Numbers
pub mod Values
pub mod Exact

pub mod Probes
pub mod Table

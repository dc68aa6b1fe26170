pub mod OldContents
pub mod Ink
pub mod Parts
pub mod Bands
pub mod Worked

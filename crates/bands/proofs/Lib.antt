pub mod Cells
pub mod Rows
pub mod Counting
pub mod Painting
pub mod Whole
pub mod OldContents
pub mod OneOutcome

-- laws for use above: how far a split leaves a cubic bent; how deep it is split; its points are those of its halves, over a stack that is never full;
-- where its points lie, and which is the last
pub mod Axis
pub mod Depth
pub mod Run
pub mod Points
-- what the functions' proofs lean on
mod Stack
mod Going
mod Tests

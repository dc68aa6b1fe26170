mod Pairs
mod Cells
mod Stores
mod Runs
mod OneOutcome

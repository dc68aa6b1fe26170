mod Drawings
mod OneOutcome

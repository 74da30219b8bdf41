pub mod Agreeing
pub mod Written
pub mod WholeLines
pub mod Standing
pub mod Races
pub mod Bounds
pub mod Ends
pub mod Following
pub mod Squeezing
mod BlockLines

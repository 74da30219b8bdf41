-- What is kept of a board after every legal history.
pub mod Apart
pub mod Changes
pub mod Fields
pub mod Histories
pub mod Induction
pub mod Splits
pub mod Steps
pub mod Turns

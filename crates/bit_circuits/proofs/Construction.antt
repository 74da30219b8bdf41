-- Circuits as code takes their steps.
pub mod Growing
pub mod Running
pub mod Steps
pub mod Turning

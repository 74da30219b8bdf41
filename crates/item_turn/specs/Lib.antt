pub mod Trials
pub mod Stretches
pub mod Steps

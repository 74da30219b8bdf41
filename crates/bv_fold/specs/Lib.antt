pub mod Folding
pub mod Gathered
pub mod Remembered
pub mod Standing
pub mod Steps

pub mod Meeting
pub mod Names
pub mod Steps
pub mod Vectors

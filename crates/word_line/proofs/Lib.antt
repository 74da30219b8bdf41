pub mod OneJob
pub mod Asking
mod Parsing
mod Writing

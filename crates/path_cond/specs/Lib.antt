pub mod Memories
pub mod Parts

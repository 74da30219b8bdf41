pub mod Covers
pub mod Unique
pub mod Counting
pub mod Standing

-- What circuits are made of, and how wide their outcomes are.
pub mod Building
pub mod Loops
pub mod Parts
pub mod Widths

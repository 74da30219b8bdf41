pub mod Drawing
pub mod Blocks

-- What code lays out, and that it is the graph.
pub mod Along
pub mod Called
pub mod Copied
pub mod Laid
pub mod Landed
pub mod Parts
pub mod Unfolded

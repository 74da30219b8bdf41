pub mod WeightLayers
mod Sums
pub mod Seeking
mod Copies
mod Counts

pub mod AmountLayers
pub mod Sums
pub mod Steps
pub mod Touched

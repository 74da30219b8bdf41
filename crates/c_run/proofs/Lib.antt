pub mod Remains
pub mod WorkLayers
pub mod Steps
pub mod Above
pub mod Exact

pub mod BlockLayers
pub mod Gathered
mod Tabled
pub mod Telling
mod Acting
pub mod WorkedContents

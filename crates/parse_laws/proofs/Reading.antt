-- Reading and heights, one step at a time.
pub mod Layers
pub mod StmtLayers
pub mod Steps
pub mod Turns
pub mod StmtTurns
pub mod Lists
pub mod Until
pub mod Phrases

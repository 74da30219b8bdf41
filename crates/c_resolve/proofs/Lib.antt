pub mod UseLayers
pub mod Steps
pub mod StmtLayers
pub mod Growth
pub mod ForLoops
pub mod FileLayers

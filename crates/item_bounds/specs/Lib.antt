pub mod Left
pub mod Bounds

pub mod Draws
pub mod Segments
pub mod Lines
pub mod Case

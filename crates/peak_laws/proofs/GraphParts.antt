-- The graph of a program as a part.
pub mod Drawn
pub mod Shapes
pub mod Places
pub mod Programs

-- What well-formed programs keep while they run.
pub mod Layouts
pub mod WellFormed
pub mod Asked
pub mod Kept
pub mod Programs

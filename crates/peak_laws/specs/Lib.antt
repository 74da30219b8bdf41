pub mod Parts
pub mod Flows
pub mod ProgramParts
pub mod Answers
pub mod Magnitudes
pub mod Peaks

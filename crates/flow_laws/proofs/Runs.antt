-- Runs of a program are driven paths of its graph, and back.
pub mod RunClaims
pub mod StatementParts
pub mod StatementLists
pub mod RunsDriven
pub mod CopiesSound
pub mod WalksOverNumbers
pub mod EdgeNumbers
pub mod TracesOfPaths
pub mod RunsAreDrivenPaths
pub mod WellFormedPrograms

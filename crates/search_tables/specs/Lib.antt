pub mod Trail
pub mod Entries
pub mod Watching
pub mod Marking
pub mod Clauses

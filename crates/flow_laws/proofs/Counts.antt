-- The counts of lists of edges.
pub mod ListsConserved
pub mod ListsJoined
pub mod CountSums

pub mod Driving
pub mod Runs
pub mod Graphs
pub mod NamedEdges
pub mod Caps
pub mod Counts
pub mod Loops

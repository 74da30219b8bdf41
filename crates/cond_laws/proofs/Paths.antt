-- The terms of lists of edges.
pub mod MoveTerms
pub mod WalkTerms
pub mod StartTerms
pub mod PlainGraphs
pub mod Whole

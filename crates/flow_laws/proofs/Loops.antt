-- The loops of a graph.
pub mod LoopsNested
pub mod LoopsBounded
pub mod LoopConditions

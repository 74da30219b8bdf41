pub mod Extended
pub mod Renamed
pub mod NextFolds
mod TermFacts
pub mod PutTerms
pub mod FoldedTerms
mod MarkedTerms
mod CopiedTerms

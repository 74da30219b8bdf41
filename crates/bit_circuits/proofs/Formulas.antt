-- The clauses of conditions: what they say, and what assignments of them say.
pub mod Clauses
pub mod Decoding
pub mod Extending
pub mod Fitting
pub mod Gating
pub mod Meaning

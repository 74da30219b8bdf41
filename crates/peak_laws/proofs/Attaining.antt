-- The counts of a part: they meet the rows, and cost what the multipliers bound.
pub mod Amounts
pub mod Conserved
pub mod Turned
pub mod Attained
pub mod Sums

-- The multipliers: what they leave of the costs, and that their value can be computed.
pub mod DualFits
pub mod DualRange
pub mod Multiplied
pub mod Magnitudes
pub mod Ranges
pub mod Reduced
pub mod Covered

pub mod Comments
pub mod Fronts
pub mod Lines
pub mod LongestMatch
pub mod MarkTable
pub mod Numerals
pub mod Operands

pub mod Spanned
pub mod Weighted
pub mod PathCounts
pub mod Listed
pub mod Named
pub mod OneMore
pub mod Worked
pub mod Counting

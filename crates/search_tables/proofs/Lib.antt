pub mod Placing
pub mod Entering
pub mod MarkingMore
pub mod Cutting

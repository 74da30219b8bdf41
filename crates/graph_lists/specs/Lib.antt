pub mod Amounts
pub mod Joints
pub mod Leaving
pub mod Spans
pub mod Touches

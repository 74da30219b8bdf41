pub mod Capped
pub mod Sought

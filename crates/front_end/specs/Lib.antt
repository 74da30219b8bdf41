pub mod Accepted
pub mod Refusing
pub mod Files
pub mod Halts
pub mod Lines
pub mod Statuses

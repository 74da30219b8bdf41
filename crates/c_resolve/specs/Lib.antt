pub mod Walks
pub mod Entered
pub mod Files

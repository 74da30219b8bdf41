pub mod Stopping
pub mod Growing
pub mod OneProgram
pub mod InFiles
pub mod Agreeing

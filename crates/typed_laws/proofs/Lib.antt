pub mod Shaped
pub mod Faultless
mod Standing
pub mod Formed
mod Inside
pub mod DeclaredLocals
pub mod FileScope
pub mod SpansOfFunctions
pub mod EntryFunction

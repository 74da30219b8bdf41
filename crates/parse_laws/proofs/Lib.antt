pub mod SameSymbol
pub mod Reading
pub mod Tokens
pub mod Complete
pub mod Sound
pub mod Whole

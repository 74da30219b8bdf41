pub mod Meaning
pub mod Tokens
pub mod Keeping
pub mod Grammar
pub mod Checking

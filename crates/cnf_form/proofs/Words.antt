-- The words and lines of a text.
pub mod Advancing
pub mod Decimals
pub mod Growing
pub mod Tokens
pub mod Wording
pub mod Written

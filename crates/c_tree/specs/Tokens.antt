-- What the tokens of a text are.
pub mod Characters
pub mod TokenKinds
pub mod Lexing
pub mod Places
pub mod Symbols

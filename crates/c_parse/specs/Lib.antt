pub mod Lexeme
pub mod Reads
pub mod Answers

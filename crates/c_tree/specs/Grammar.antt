-- What trees the tokens of a text spell.
pub mod SpelledExpressions
pub mod SpelledStatements
pub mod Spelling
pub mod Heights

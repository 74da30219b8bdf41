-- The pieces stand apart, so they are the tokens of the text.
pub mod Standing
pub mod StandingMarks
pub mod StandingNumbers
pub mod StandingWords
pub mod LexemesOfPieces
pub mod BoundLines
pub mod ApartExpressions
pub mod ApartPieces
pub mod ApartSimple
pub mod ApartStatements
pub mod ApartPrograms
pub mod PrintedTokens

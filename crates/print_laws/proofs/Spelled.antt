-- The pieces spell a tree that shows the program.
pub mod SpelledAgain
pub mod SpelledParts
pub mod SpelledLines
pub mod SpelledLoops
pub mod SpelledStatementsAgain
pub mod SpelledFunctions
pub mod SpelledGlobals
pub mod SpelledPrograms

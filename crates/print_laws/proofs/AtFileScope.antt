-- File scope of a printed text is that of the text, so the unit is typed as the program.
pub mod DifferentNames
pub mod KnownNames
pub mod FilesAgain
pub mod PrintedKnown
pub mod NamesOfUnits
pub mod FileWalks
pub mod GlobalsAgain
pub mod PrintedGlobals
pub mod FunctionsAgain
pub mod EntriesAgain
pub mod TypedAgain

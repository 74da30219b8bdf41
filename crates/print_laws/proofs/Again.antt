-- Statements of a printed text are those of the text, and faultless.
pub mod Scoped
pub mod BodiesAgain
pub mod FaultlessUses
pub mod ExpressionsAgain
pub mod ScopesAgain
pub mod LiteralLengths
pub mod DeclaredAgain
pub mod AssignedAgain
pub mod CalledAgain
pub mod BlocksAgain
pub mod RowsAgain
pub mod StatementsAgain
pub mod ShownConstants

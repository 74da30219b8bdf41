-- Programs that are typed from a unit of a text can be printed and read.
pub mod Showable
pub mod NamedScopes
pub mod NamedTexts
pub mod NamedExpressions
pub mod NamedStatements
pub mod NamedUnits
pub mod NamedPrograms
pub mod NamedVariables
pub mod ShowableExpressions
pub mod ShowableStatements
pub mod ShowablePrograms

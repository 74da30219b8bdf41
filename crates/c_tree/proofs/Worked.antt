-- Worked values, computed.
pub mod WorkedExpressions
pub mod WorkedStatements
pub mod WorkedRuns
pub mod WorkedWellFormed
mod WorkedChecks

pub mod Runs
pub mod Growing
pub mod OperandRuns
pub mod ExpressionRuns

pub mod DeclaredInputs
pub mod StartRuns
pub mod CallRuns
pub mod EdgeRuns
pub mod ListRuns

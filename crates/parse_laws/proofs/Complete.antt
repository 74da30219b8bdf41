-- What is spelled is read.
pub mod ExprComplete
pub mod DeclComplete
pub mod AssignComplete
pub mod CallComplete
pub mod ForComplete
pub mod StmtSteps
pub mod StmtComplete
pub mod UnitComplete
pub mod TopsComplete

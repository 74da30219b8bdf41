-- What is read is spelled.
pub mod ExprSound
pub mod DeclSound
pub mod AssignSound
pub mod CallSound
pub mod ForSound
pub mod LoopSound
pub mod StmtSound
pub mod UnitSound

-- How phrases begin, and what may follow them.
pub mod Types
pub mod Follows
pub mod StmtFollows
pub mod Begins
pub mod Starts
pub mod ExprClosed

-- Well-formed programs keep the layout of the store.
pub mod Ranges
pub mod Slots
pub mod Evaluated
pub mod SimpleKept
pub mod ExecKept
pub mod Begun
pub mod Called
pub mod Callees
pub mod StmtsFind

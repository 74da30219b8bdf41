-- What faults a unit has, and what program it is.
pub mod Scopes
pub mod Constants
pub mod Naming
pub mod Uses
pub mod Refusals
pub mod Checked

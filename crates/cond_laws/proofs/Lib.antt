pub mod Judging
pub mod Operators
pub mod Stores
pub mod Paths
pub mod Fitting
pub mod Worked

pub mod Naming
pub mod RowsTested
pub mod StepLists
pub mod Summing

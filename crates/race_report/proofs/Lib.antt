pub mod Orders
pub mod Runs
pub mod Histories
pub mod Lines
pub mod Reports
pub mod WholeLines

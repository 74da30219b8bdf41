pub mod Naming
pub mod Words
pub mod Formulas
pub mod Logs

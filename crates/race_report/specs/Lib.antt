pub mod ShownValues
pub mod Telling
pub mod Claims

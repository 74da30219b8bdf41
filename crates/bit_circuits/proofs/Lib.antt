pub mod Circuits
pub mod WordArithmetic
pub mod Formulas
pub mod Construction

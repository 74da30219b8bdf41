-- The texts of formulas.
pub mod Bodies
pub mod CnfWritten
pub mod FormulaTexts
pub mod Fronts
pub mod Heads
pub mod LineWords
pub mod OneFormula
pub mod Placing

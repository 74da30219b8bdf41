-- The terms of operators.
pub mod BinaryTerms
pub mod DivisionTerms
pub mod OperandTerms
pub mod ProductTerms
pub mod RelationTerms
pub mod ShiftTerms
pub mod SumTerms

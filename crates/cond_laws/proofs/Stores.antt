-- The terms of expressions and statements over a store.
pub mod ElementTerms
pub mod ExpressionLayers
pub mod ExpressionTerms
pub mod SlotTerms
pub mod StatementTerms

-- Terms fit: each operator names terms before it.
pub mod ExpressionFits
pub mod OperandFits
pub mod PathFits

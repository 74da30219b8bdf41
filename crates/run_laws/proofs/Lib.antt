pub mod TraceLength
pub mod RunCosts
pub mod CostRows

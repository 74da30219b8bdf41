pub mod Batches
pub mod Columns
pub mod Covered
pub mod Duality
pub mod Edges
pub mod ListSteps
pub mod Products
pub mod Scaling

pub mod Attaining
pub mod GraphParts
pub mod Duals
pub mod Optima

-- The optimum of a part and of a plan.
pub mod Above
pub mod Computed
pub mod Dearest
pub mod Greatest
pub mod Worked

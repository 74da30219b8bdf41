pub mod FlowRows
pub mod Counts
pub mod CapsBound
pub mod Sound
pub mod Worked
pub mod Optimum
pub mod Counted

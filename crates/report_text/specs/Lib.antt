pub mod Texts
pub mod Conditions
pub mod Faults
pub mod Form
pub mod Courses
pub mod Values
pub mod WholeLines

pub mod InputNumbers
pub mod Judged

pub mod Bytes
pub mod Decimals
pub mod Joining
pub mod Leaving
pub mod Onward
pub mod WholeLines

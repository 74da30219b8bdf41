pub mod OpenForks
pub mod Undriven
pub mod Onwards
pub mod Trying
pub mod Told

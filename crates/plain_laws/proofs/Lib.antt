pub mod Lists
pub mod Booleans
pub mod Numbers
pub mod Integers
pub mod Options
pub mod Zips

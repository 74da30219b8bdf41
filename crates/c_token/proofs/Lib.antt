pub mod Answering
pub mod Beginnings
pub mod Laws
pub mod Reaching
pub mod Sizes
pub mod Sorts

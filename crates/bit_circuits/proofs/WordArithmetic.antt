-- What the circuits of words say of their numbers.
pub mod Adding
pub mod Bitwise
pub mod Products
pub mod Quotients
pub mod Shifts
pub mod Signed
pub mod Sums
pub mod Terms
pub mod Values

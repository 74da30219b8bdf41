-- What values, expressions, statements and runs mean.
pub mod Values
pub mod Operators
pub mod Stores
pub mod Expressions
pub mod Blocks
pub mod Statements
pub mod Runs
pub mod Claims
pub mod Literals
pub mod Worked
pub mod Spans

pub mod FirstKeys
pub mod KnownNames
pub mod Entries
pub mod FirstInOrder
pub mod WorkedTables
pub mod BlockCosts
pub mod GivenCosts

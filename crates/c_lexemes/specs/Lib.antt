pub mod Directives
pub mod Lengths
pub mod Marks
pub mod Unread

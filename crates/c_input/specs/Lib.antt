pub mod Starts
pub mod InputTexts
pub mod Reading

pub mod Untaken
pub mod Ended
pub mod Written
pub mod Racing

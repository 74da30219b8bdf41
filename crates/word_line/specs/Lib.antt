pub mod Command
pub mod Words
pub mod Jobs
pub mod Numbers

pub mod Races
pub mod Endings
pub mod Texts

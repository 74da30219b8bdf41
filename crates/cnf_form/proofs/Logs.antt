-- The texts of logs.
pub mod LogHeads
pub mod LogLines
pub mod LogTexts

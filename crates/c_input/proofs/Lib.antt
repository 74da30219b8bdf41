pub mod InputParts
pub mod InputLeads
pub mod NumberTexts
pub mod InputSteps
pub mod InputRead

pub mod DrivenInputs
pub mod Findings
pub mod FoldedLists

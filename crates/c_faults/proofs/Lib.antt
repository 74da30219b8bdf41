pub mod AfterUses
pub mod FirstFault

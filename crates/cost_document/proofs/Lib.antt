pub mod Reading
pub mod NumberedKeys

pub mod Forgetting
pub mod PlainRows
pub mod Once
pub mod Numbering

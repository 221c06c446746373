pub mod Flags
pub mod Literals

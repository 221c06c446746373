pub mod Explaining
pub mod Finders
pub mod Inside
pub mod Model

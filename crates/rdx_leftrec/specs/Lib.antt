pub mod Recursion
pub mod Inside

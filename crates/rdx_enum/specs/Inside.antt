pub mod Ways
pub mod Rows
pub mod Growing
pub mod Tables
pub mod Order
pub mod Sizes
pub mod Tests

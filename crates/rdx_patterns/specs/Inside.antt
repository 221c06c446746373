pub mod Repeats
pub mod Adding
pub mod Slots
pub mod CrossesTo

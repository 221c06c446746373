-- What only clauses inside the crate cite.
pub mod Appending
pub mod Attempting
pub mod Counting
pub mod Comparing
pub mod Contexts
pub mod Whether
pub mod Explaining
pub mod Tabled
pub mod Putting

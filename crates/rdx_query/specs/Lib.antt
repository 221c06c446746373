pub mod File
pub mod Writing
pub mod Views
pub mod ValidQueries
pub mod Laws
pub mod Examples
pub mod Inside

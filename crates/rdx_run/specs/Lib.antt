pub mod Walks
pub mod Runs
pub mod Views
pub mod Laws
pub mod Examples
pub mod Inside

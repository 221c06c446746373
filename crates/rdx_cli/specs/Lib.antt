pub mod Words
pub mod Reading
pub mod Refusals
pub mod Transcript
pub mod Ends
pub mod Laws
pub mod Examples
pub mod Inside

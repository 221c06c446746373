pub mod Finding
pub mod Keys

pub mod Tokens
pub mod TotalOrder
pub mod Weights
pub mod Measures

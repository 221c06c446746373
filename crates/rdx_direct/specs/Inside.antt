pub mod Plain
pub mod Going
pub mod Together
pub mod Reaching
pub mod Known
pub mod Wanted
pub mod Paths
pub mod Splits

pub mod HostWords
pub mod Ranges
pub mod Arguments
pub mod ArgumentNumbers
pub mod Tables
pub mod Folding
pub mod Comparing

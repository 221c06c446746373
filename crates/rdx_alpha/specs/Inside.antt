pub mod PartView
pub mod Stops
pub mod Before
pub mod Same
pub mod Around
pub mod WrittenView

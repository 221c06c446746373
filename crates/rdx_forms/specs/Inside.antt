-- What only clauses inside the crate cite.
pub mod PartViews
pub mod Earlier
pub mod Defining
pub mod Asking
pub mod Passing
pub mod Closing
pub mod OptionViews
pub mod Generating
pub mod Copies
pub mod Binding

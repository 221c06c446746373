-- What only clauses inside the crate cite.
pub mod KindViews
pub mod Steps

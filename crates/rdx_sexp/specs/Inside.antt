-- What private clauses alone cite.
pub mod Machine
pub mod Lexemes
pub mod Stack
pub mod Cursor

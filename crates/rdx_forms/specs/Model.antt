-- What ghost fields cite.
pub mod Tabled

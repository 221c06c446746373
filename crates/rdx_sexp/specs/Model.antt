-- The machinery of the model of `Datum`.
pub mod SexpCode
pub mod Falls

-- The laws of values, for other crates to cite. None asks its reader to open a definition.
pub mod Range
pub mod Equality
pub mod Pattern

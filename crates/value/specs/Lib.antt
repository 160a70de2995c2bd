-- Values. These files are what a reader must believe.
pub mod Range
pub mod Equality
pub mod Division
pub mod Pattern
pub mod Sentences

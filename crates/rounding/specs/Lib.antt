-- The average.
pub mod Rounding
pub mod Sentences

-- Comparisons of values.
pub mod Comparison
pub mod Sentences

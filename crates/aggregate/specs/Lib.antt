-- Aggregates of values.
pub mod Aggregate
pub mod Sentences

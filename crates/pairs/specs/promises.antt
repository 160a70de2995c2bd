-- What the rows of a join promise.
pub mod Pairs

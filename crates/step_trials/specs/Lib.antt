-- What a line of the input says.
pub mod Meanings
pub mod Words

-- How many words of a list are labels, the words that stand in some bytes, and what the bytes of a label are.
pub mod Bytes
pub mod Labels
pub mod Words

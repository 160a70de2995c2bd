-- The label, one 32-bit word, and what an answer of the library says. These files are what a reader must believe.
pub mod Word
pub mod Stages
pub mod WellFormed
pub mod Answers
pub mod Text

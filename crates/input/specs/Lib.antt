-- What the input checks answer; a reader must believe both.
pub mod Verdict
pub mod Answers

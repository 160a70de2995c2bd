-- The numbers of a run's answers, which a reader must believe; `promises` has what the crates promise one another.
pub mod Answers
pub mod promises

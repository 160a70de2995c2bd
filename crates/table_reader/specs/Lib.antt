-- The reader of a table part's cells. Nothing here is to be believed: `promises` has what crates promise one another.
pub mod promises

-- The reader of a table part's marks. Nothing here is to be believed: `promises` has what crates promise one another.
pub mod promises

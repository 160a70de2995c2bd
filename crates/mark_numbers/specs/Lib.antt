-- Rows with the same mark. Nothing here is to be believed: `promises` has what crates promise one another.
pub mod promises

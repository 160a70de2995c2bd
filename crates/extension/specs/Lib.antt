-- Rows with one cell more, over work memory. Nothing here is to be believed: `promises` has what the crates promise one another.
pub mod promises

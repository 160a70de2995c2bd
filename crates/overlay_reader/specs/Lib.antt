-- The reader of an overlay's labels. Nothing here is to be believed: `promises` has what crates promise one another.
pub mod promises

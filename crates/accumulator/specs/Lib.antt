-- What the aggregates of a group are made of. Nothing here is to be believed: `promises` has what the crates promise one another.
pub mod promises

-- The step KEEP over work memory. Nothing here is to be believed: `promises` has what its functions promise one another.
pub mod promises

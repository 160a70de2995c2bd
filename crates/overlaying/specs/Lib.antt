-- The overlays and the floor, on the table that a SCAN has pushed. Nothing here is to be believed: `promises` has what crates promise one another.
pub mod promises

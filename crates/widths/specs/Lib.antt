-- The columns that a step makes. Nothing here is to be believed: `promises` has what this crate's functions promise; the rules stand in `plan`.
pub mod promises

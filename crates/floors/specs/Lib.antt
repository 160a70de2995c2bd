-- The tables under a rule year. `Floors` is what a reader must believe; `promises` has what crates promise one another.
pub mod Floors
pub mod promises

-- Work memory as a run leaves it. `Zeros` is what a reader must believe; `promises` has what the crates promise one another.
pub mod Zeros
pub mod promises

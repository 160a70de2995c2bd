-- What the proofs share. Header is also for the proofs of other crates to cite.
mod CellsLeft
pub mod Header

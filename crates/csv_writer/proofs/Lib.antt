-- What the proofs share. `Digits` and `Cells` are for the proofs of other crates to cite.
pub mod Digits
pub mod Cells
mod Writing
mod Texts

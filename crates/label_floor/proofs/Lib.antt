-- What the proofs share; `NoFloor` is for the proofs of other crates to cite.
mod FloorMasks
pub mod NoFloor

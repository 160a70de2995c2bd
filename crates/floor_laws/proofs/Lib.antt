-- For the proofs of other crates to cite.
pub mod AboutFloor

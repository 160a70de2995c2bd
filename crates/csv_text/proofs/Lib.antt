-- `FixedProof` is for the proofs of other crates to cite.
pub mod FixedProof

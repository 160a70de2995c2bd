-- What the proofs share, and for the proofs of other crates to cite.
pub mod Laws
pub mod Sums

-- What other crates' proofs cite.
pub mod Laws

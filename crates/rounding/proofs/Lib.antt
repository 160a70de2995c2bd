-- The laws, for the proofs of other crates to cite, and what they share.
pub mod Distances
pub mod Laws
mod Nearest
pub mod SentencesProof

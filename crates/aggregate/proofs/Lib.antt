-- The laws, for the proofs of other crates to cite, and what they share.
pub mod Laws
mod Room
pub mod SentencesProof

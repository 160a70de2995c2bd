-- What the proofs share. `Laws` and `SentencesProof` are for the proofs of other crates to cite.
pub mod Laws
pub mod SentencesProof

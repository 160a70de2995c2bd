-- What the proofs share. For the proofs of other crates to cite.
pub mod Integers
pub mod Folded
pub mod Operation
pub mod Sizes
pub mod Machine
pub mod Laws
pub mod SentencesProof

-- `Laws`, `OnesProof`, `OrderProof` and `Examples` are for the proofs of other crates to cite.
mod Digits
pub mod Examples
pub mod Laws
mod Merged
pub mod OnesProof
pub mod OrderProof
mod Parts

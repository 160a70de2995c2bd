-- `FailsProof`, `LongestProof`, `OneTextProof` and `ReadsBackProof` are for the proofs of other crates to cite.
pub mod FailsProof
pub mod LongestProof
pub mod OneTextProof
pub mod ReadsBackProof

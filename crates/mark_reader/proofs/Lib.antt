-- What the proofs share, and the proofs of other crates cite.
pub mod Marks

-- What the proofs share; for the proofs of other crates to cite, too.
pub mod Spots
pub mod Steps
pub mod Reading

-- What the proofs share. Passed is also for the proofs of other crates to cite.
pub mod Passed
mod TablesLeft

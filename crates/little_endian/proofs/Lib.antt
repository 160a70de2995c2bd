-- What the proofs share. Numbers is also for the proofs of other crates to cite.
pub mod Numbers

-- What the proof of `write_step` needs, for the proofs of other crates to cite.
pub mod LineMeaning

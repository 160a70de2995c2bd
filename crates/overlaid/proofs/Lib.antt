-- `Overlaid` proves the propositions; all are for the proofs of other crates to cite.
pub mod Parts
pub mod Tables
pub mod Overlaid

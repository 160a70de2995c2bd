-- What the proofs share, and for the proofs of other crates to cite.
pub mod Below
pub mod Masks
pub mod Packed
pub mod Words

-- What the proofs share. `Laws` is for the proofs of other crates to cite.
mod Meaning
mod RowMade
pub mod Laws

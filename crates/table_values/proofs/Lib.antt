-- What the proofs share. `Laws` is for the proofs of other crates to cite.
pub mod Laws
mod Overs

-- What the proofs share. Laid and Ones are also for the proofs of other crates to cite.
pub mod Laid
pub mod Ones
mod Meaning

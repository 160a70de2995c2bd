-- What the proofs share. `Firsts` and `RowNumbers` are for the proofs of other crates to cite.
mod Buckets
pub mod Firsts
pub mod RowNumbers

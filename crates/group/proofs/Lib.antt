-- What the proofs share. `Laws` is for the proofs of other crates to cite.
mod Aggregating
mod Choosing
mod Groups
mod Labels
mod Making
mod Meaning
mod Moving
mod Sheets
mod Walking
mod Writing
pub mod Laws

-- What the proofs share. `Leaders`, `Leading` and `Reading` are for the proofs of other crates to cite.
mod Chaining
mod Hashing
mod Leads
mod Listing
mod Searching
mod Zeros
pub mod Leaders
pub mod Leading
pub mod Reading

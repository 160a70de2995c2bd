-- What the promise of a step leaves open.
pub mod OpenProof
mod Short

-- The proofs of the demands. All but AlikeSheets and Tables are also for the proofs of other crates to cite.
pub mod Runs
pub mod Prepared
mod AlikeSheets
pub mod SecrecyProof
pub mod Slices
pub mod MemoryProof
pub mod InputNumbers
pub mod Widths
pub mod Columns
mod Tables
pub mod Texts
pub mod AccuracyProof
pub mod LengthsProof

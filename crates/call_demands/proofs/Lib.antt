-- The proofs of the demands on the calls, also for the proofs of other crates to cite.
pub mod CallProof
pub mod CheckProof
pub mod ConvertProof

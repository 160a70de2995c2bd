-- What an accepted container holds, for the proofs of other crates to cite.
pub mod AcceptedOperations
pub mod AcceptedPlan
pub mod AcceptedTables

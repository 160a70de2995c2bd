-- What the proofs share.
pub mod PartsLeft

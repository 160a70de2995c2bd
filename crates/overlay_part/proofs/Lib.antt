-- What the proofs share.
pub mod RowsLeft

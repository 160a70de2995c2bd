-- For the proofs of `apply` and `noise` to cite.
pub mod LabelledRows
pub mod Labels
pub mod RowExtended
pub mod Rows
pub mod MakingRows
pub mod Ends

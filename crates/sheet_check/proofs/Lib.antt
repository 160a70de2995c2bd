-- What the proofs share. SheetsLeft is also for the proofs of other crates to cite.
pub mod SheetsLeft

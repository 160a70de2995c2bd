-- What the proofs share.
mod FilterLoop
mod FilterMeaning
mod RowLaws

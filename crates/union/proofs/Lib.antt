-- What the proofs share.
mod UnionMeaning

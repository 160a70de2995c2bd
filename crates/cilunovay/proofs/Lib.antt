-- What the proofs share.
mod CallMeaning

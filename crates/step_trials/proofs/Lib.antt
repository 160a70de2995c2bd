-- What the proofs share.
mod Words

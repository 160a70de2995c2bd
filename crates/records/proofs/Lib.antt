-- What the proofs share.
mod Tests

-- What the proofs share.
mod CutOut

-- What the proofs share.
mod Levels
mod Masked

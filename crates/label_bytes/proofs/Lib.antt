-- What the proofs share.
mod Bytes
mod Counts
mod Words

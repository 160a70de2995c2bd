-- What the proofs share.
mod Replies

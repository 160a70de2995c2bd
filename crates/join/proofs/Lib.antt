-- What the proofs of the join share.
mod Ending
mod KeyLabels
mod Meaning

-- What the proofs share.
mod CellsRead

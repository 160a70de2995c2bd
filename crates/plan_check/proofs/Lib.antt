-- What the proofs share.
mod Stacks
mod StepsLeft

-- What the proofs share.
mod KeepLoop
mod KeepMeaning

-- What the refusal of a NOISE promises.
pub mod Refusals

-- What the refusal of an APPLY promises.
pub mod Refusals

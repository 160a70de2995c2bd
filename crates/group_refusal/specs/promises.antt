-- What the refusal of a GROUP promises.
pub mod Refusals

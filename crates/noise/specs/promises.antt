-- `Fits`: what NOISE asks. `Making`: the rows that it makes.
pub mod Fits
pub mod Making

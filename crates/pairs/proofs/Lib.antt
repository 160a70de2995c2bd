-- What the proofs share. `Fitting`, `Growing`, `Joining` and `Marks` are for the proofs of other crates to cite.
mod Above
mod Filling
mod Turns
pub mod Fitting
pub mod Growing
pub mod Joining
mod Keys
mod Same
pub mod Marks

-- What the crates promise one another.
pub mod Flooring

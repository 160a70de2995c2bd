-- What the crates promise one another.
pub mod Overlaying

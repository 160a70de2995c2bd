-- What the functions here promise.
pub mod Raising

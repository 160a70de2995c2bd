-- x
mod Composed
pub mod Scanned

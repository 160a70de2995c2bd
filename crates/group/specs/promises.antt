-- `Fits` has what the step asks; the other files are what its private functions promise each other.
pub mod Fits
pub mod Made
pub mod Members

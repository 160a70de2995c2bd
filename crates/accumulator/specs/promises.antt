-- The values of a group, taken one after the other.
pub mod Accumulators

-- The checks 13, 14, 15 and 20. This file is what a reader must believe.
pub mod Checks

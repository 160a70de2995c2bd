-- The check 11. This file is what a reader must believe.
pub mod Checks

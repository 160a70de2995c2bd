-- The input checks, and what an accepted container holds. These files are what a reader must believe.
pub mod Check
pub mod Contents

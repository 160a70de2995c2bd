-- What a trial ran on.
pub mod Runs

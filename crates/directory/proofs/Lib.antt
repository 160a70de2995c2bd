-- What the proof of `check_directory` rests on.
pub mod Pairs

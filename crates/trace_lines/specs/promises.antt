-- What the functions of this crate promise.
pub mod Lines
pub mod Stages

-- What the functions of this crate promise.
pub mod Output
pub mod Over

-- What the functions of this crate promise one another.
pub mod Stack

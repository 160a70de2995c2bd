-- A step's record. `Record` is what a reader must believe; `promises` has what the functions of this crate promise one another.
pub mod Record
pub mod promises

-- A table part. `TablePart` is what a reader must believe; `promises` has what crates promise one another.
pub mod TablePart
pub mod promises

-- The rule of a directory, of a container and of an overlay. `Directory` is what a reader must believe; `promises` has what crates promise one
-- another.
pub mod Directory
pub mod promises

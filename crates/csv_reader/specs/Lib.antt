-- The reader of a table's text. `Reader` is what a reader of these pages must believe; `promises` is what the crates promise one another.
pub mod Reader
pub mod promises

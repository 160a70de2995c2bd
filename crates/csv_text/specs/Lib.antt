-- A table's comma-separated text. `Text` is what a reader must believe; `promises` is what the crates promise one another.
pub mod Text
pub mod promises

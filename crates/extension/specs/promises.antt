-- `Rows`: rows with one cell more. `Labels`: the new cell's label. `Extending`: the table that is made of a table.
pub mod Rows
pub mod Labels
pub mod Extending

-- `Cells`: a table's values as text, one after the other. `Writing`: what the functions that write a text answer.
pub mod Cells
pub mod Writing

-- What the crates promise one another of cells in work memory.
pub mod Cells
pub mod Work
pub mod Written
pub mod Search
pub mod Labelled
pub mod Lent

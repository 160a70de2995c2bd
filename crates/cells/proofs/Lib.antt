-- What the proofs of the steps share of cells and tables in memory, for other crates to cite.
pub mod CellLaws
pub mod Columns
pub mod Filled
pub mod LabelledTables
pub mod Masks
pub mod Parts
pub mod RowReads
pub mod Rows
pub mod Searching
pub mod Wanted
pub mod Written

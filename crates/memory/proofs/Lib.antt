-- What the proofs of the steps share of work memory, for other crates to cite.
pub mod Stacks
pub mod LiveTables
pub mod Finish
pub mod TopLabels
pub mod MovedDown
pub mod Forbids
pub mod FormedTables
pub mod RefusedRows
mod TopWidths

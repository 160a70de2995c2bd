-- `AboutConversion` proves the propositions.
mod Offsets
mod Labels
mod Windows
mod TableTests
mod Stands
mod TableParts
mod NewContainer
pub mod AboutConversion

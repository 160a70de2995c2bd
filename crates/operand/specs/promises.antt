-- What FILTER and APPLY read.
pub mod Operands

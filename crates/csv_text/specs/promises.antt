-- `Fixed`: that the bytes which the code has are the definition's.
pub mod Fixed

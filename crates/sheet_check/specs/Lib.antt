-- What 20 tests. This file is what a reader must believe.
pub mod Sheets

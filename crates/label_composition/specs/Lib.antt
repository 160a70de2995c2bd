-- "Composition of two labels". This file is what a reader must believe.
pub mod Composition

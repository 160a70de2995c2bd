-- The operations on one value or two. `Arithmetic` is what a reader must believe; `Sentences` is proved.
pub mod Arithmetic
pub mod Sentences

-- A label as a rule year reads it. This file is what a reader must believe.
pub mod Floor

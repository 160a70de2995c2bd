-- The container's layout. This file is what a reader must believe.
pub mod Layout

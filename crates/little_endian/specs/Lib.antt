-- Little-endian numbers. This file is what a reader must believe.
pub mod Bytes

-- The checks 21 and 22 of one overlay. This file is what a reader must believe.
pub mod OverlayCheck

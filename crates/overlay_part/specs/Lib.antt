-- A part of an overlay. These files are what a reader must believe.
pub mod OverlayPart
pub mod Labels

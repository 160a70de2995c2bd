-- The overlays of a run: their checks, and the tables with their labels. This file is what a reader must believe.
pub mod Overlays

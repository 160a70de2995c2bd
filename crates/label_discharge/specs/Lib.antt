-- Discharge at the levels T, A and N. This file is what a reader must believe.
pub mod Discharge

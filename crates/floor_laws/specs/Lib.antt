-- Theorems on labels and the floor, each proved. Nothing here has to be believed.
pub mod FloorLaws

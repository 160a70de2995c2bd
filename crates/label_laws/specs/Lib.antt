-- Theorems on the label rules, each proved. Nothing here has to be believed.
pub mod Laws
pub mod Ones
pub mod Order
pub mod Examples

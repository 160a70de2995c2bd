-- #103, "Sheets instead of rows in a group": theorems on the definitions of `plan`, each proved. Nothing here has to be believed.
pub mod Marks
pub mod Counted
pub mod Itself
pub mod Once

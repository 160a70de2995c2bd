-- The evaluation of a plan and stricter labels: a theorem on the definitions of `plan`, proved. Nothing here has to be believed.
pub mod Strictness

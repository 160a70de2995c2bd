-- The proof of the theorem in specs/.
mod Checks
mod Made
pub mod AboutStrictness

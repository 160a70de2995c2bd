-- The proofs of the theorems in specs/.
mod Either
mod LabelsTwice
mod Times
pub mod AboutMarks
pub mod AboutCounted
pub mod AboutItself
pub mod AboutOnce

-- What the proofs share.
pub mod LabelledSteps
mod TakenMeaning
mod Walking
mod OneStep
mod Turn

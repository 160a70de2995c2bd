-- `AboutLocked` and `AboutYears` prove the propositions.
mod InYearZero
pub mod AboutLocked
pub mod AboutYears

-- `Fits`: what APPLY asks of its arguments. `Making`: what its functions promise one another.
pub mod Fits
pub mod Making

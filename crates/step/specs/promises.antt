-- `Taking`: what a step of any kind asks. `Free`: what the promise of a step leaves open.
pub mod Free
pub mod Taking

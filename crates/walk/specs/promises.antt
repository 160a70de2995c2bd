-- `Steady`: what holds before each step. `Walk`: what a walk along a plan comes to.
pub mod Steady
pub mod Walk

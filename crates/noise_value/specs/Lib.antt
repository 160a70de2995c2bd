-- Values with noise. `Noise` is what a reader must believe.
pub mod Noise
pub mod Sentences

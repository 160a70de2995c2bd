-- For the proofs of other crates to cite, too.
pub mod Flooring

-- What the proofs share.
mod ScanMeaning
mod Tables

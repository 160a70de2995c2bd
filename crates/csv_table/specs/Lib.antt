-- Tables as comma-separated text, from the crates that have it; and `Propositions`, sentences on the text and its reader, each proved.
pub use Rattle.csv_text.specs.Text
pub use Rattle.csv_reader.specs.Reader
pub mod Propositions

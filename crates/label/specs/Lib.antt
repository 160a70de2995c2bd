-- The label rules of document 01, in its order, from the crates that have them.
pub use Rattle.label_words.specs.Word
pub use Rattle.label_words.specs.Stages
pub use Rattle.label_words.specs.WellFormed
pub use Rattle.label_words.specs.Answers
pub use Rattle.label_discharge.specs.Discharge
pub use Rattle.label_composition.specs.Composition

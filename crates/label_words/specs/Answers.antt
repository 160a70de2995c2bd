-- What an answer of the library says, in the document's numbers.
use Rattle.std.specs.Prelude.{ℕ, Result, Ok, Err}
use Rattle.label_words.specs.declared.LabelRefusal.{LabelRefusal}
use Rattle.label_words.specs.declared.LabelRefusal.TheVariants.{Forbidden, IllFormed, NoOperation}

pub data LabelVerdict : Type 0 where
  label : ℕ → LabelVerdict  -- the label that is left or made
  forbidden : LabelVerdict  -- the operation is forbidden on this label
  refused : ℕ → ℕ → LabelVerdict  -- a number and a place, and no label

-- "An ill-formed word there answers 15, then an operation that does not exist 17, at place 0 with no label."
abbrev pub label_says : Result ℕ LabelRefusal → LabelVerdict
label_says (Ok word) = label word
label_says (Err Forbidden) = forbidden
label_says (Err IllFormed) = refused 15 0
label_says (Err NoOperation) = refused 17 0

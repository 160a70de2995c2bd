-- What a run answers: the number and the place of a refusal, or the rows and columns of a release and the length of its text.
use Rattle.std.specs.Prelude.{ℕ}

pub data Told : Type 0 where
  released : ℕ → ℕ → ℕ → Told  -- rows, columns and the bytes of the text
  refused_input : ℕ → ℕ → Told  -- a number; a byte offset
  refused_state : ℕ → ℕ → ℕ → ℕ → Told  -- a number; a step, a row and a column

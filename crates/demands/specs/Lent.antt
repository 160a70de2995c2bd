-- The slices lent for a run: work values, work labels, marks (#103), output, trace and text.
use Rattle.std.specs.Prelude.{ℕ, Bool, ◌&&◌, List, leb, ℤ, length}

-- their contents
pub record Lent : Type 0 where
  pub values : List ℤ
  pub labels : List ℕ
  pub marks : List ℕ
  pub output : List ℤ
  pub trace : List ℕ
  pub text : List ℕ

-- "1: a lent slice is too short: work values or work labels 8,192, output 2,048, trace 256 elements"; #103: "A further work slice of
-- 1,024 marks is lent, tested under 1". The text's is not tested here: 51.
abbrev pub long_enough : ℕ → ℕ → ℕ → ℕ → ℕ → Bool
long_enough values labels marks output trace = leb 8192 values && leb 8192 labels && leb 1024 marks && leb 2048 output && leb 256 trace

abbrev pub enough : Lent → Bool
enough lent = long_enough (length lent.values) (length lent.labels) (length lent.marks) (length lent.output) (length lent.trace)

abbrev pub lent : List ℤ → List ℕ → List ℕ → List ℤ → List ℕ → List ℕ → Lent
lent values labels marks output trace text = record {
  values = values;
  labels = labels;
  marks = marks;
  output = output;
  trace = trace;
  text = text;
}

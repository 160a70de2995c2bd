-- "Trace: four 32-bit numbers per finished step: kind, rows, columns, and stages left".
use Rattle.std.specs.Prelude.{ℕ, ◌+◌, List, [], ◌∷◌, ◌++◌, length}
use Rattle.label_words.specs.Stages.{stage_count}
use Rattle.plan.specs.Numbers.{kind_of}
use Rattle.plan.specs.Table.{Table, grid}
use Rattle.plan.specs.declared.Step.{Step}

pub record Line : Type 0 where
  pub kind : ℕ
  pub rows : ℕ
  pub columns : ℕ
  pub stages : ℕ

-- its four numbers, and those of lines one after the other
abbrev pub line_numbers : Line → List ℕ
line_numbers line = line.kind ∷ line.rows ∷ line.columns ∷ line.stages ∷ []

abbrev pub flat_lines : List Line → List ℕ
flat_lines [] = []
flat_lines (line ∷ rest) = line_numbers line ++ flat_lines rest

abbrev pub stages_in : List ℕ → ℕ
stages_in [] = 0
stages_in (label ∷ rest) = stage_count label + stages_in rest

-- "the sum of present stages over all cells of the table made"
abbrev pub stages_left : List (List ℕ) → ℕ
stages_left [] = 0
stages_left (labels ∷ rest) = stages_in labels + stages_left rest

unfoldable pub line_of : Step → Table → Line
line_of step made = record { kind = kind_of step; rows = length made.rows; columns = made.columns; stages = stages_left (grid made) }

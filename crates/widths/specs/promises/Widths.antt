-- The columns that a step makes over tables of at most 8 columns, where it is placed.
use Rattle.std.specs.Prelude.{ℕ, cond, ◌&&◌, List, [], ◌∷◌, leb, Option, Some, None}
use Rattle.plan.specs.Widths.{placed, made_columns}
use Rattle.plan.specs.declared.Step.{Step}

-- `left` and `right` are the widths of the two tables on top of the stack, the last pushed is the right one
abbrev pub made_width : Step → List ℕ → ℕ → ℕ → Option ℕ
made_width step tables left right =
    cond (leb left 8 && leb right 8 && placed step tables (right ∷ left ∷ [])) (Some (made_columns step tables (right ∷ left ∷ []))) None

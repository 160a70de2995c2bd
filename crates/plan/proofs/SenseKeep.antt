-- How many cells KEEP leaves of a row. Assumes nothing.
use Prim.Native.Nat.{ℕ, zero, suc, ◌+◌}
use mathlib.Core.Path.{◌≡◌, refl, ap₂, ◌∙◌}
use mathlib.Core.Bool.{Bool, true, false, cond}
use mathlib.Core.List.{[], ◌∷◌}
use lib.ListN.{length, length-append}
use Rattle.plan.specs.Masks.{in_mask}
use Rattle.plan.specs.Keep.{kept_count, kept_cells}
use Rattle.plan.specs.Table.{Cell, Row, cell_at}

length-cond : (b : Bool) (cell : Cell) → length (cond b (cell ∷ []) []) ≡ cond b 1 0
length-cond true cell = refl
length-cond false cell = refl

pub kept-length : (mask columns : ℕ) (row : Row) → length (kept_cells mask columns row) ≡ kept_count mask columns
kept-length mask zero row = refl
kept-length mask (suc column) row =
    length-append (kept_cells mask column row) _ ∙ ap₂ ◌+◌ (kept-length mask column row) (length-cond (in_mask mask column) (cell_at column row))

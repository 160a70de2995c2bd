-- `floors::floor_labels` meets its contract. Assumes nothing.
use Prim.Native.Nat.{◌*◌}
use mathlib.Core.Path.{◌≡◌, sym, ◌∙◌}
use native.Mathlib.Omega.{arith}
use Rattle.floors.specs.promises.Flooring.{after_floor}
use Rattle.floors.proofs.Flooring.{unchanged, in_part}
use Rattle.floors.proofs.floor_labels.Goals as goal

pub returns-then-year-ne1 : goal.returns-then-year-ne1
returns-then-year-ne1 c = let a = c.args in unchanged a.year a.table.at a.table.rows a.table.columns a.labels.now (λ e. omega arith)

pub returns : goal.returns
unfolding after_floor
returns c =
    let a = c.args in
    let year : a.year ≡ 1 = omega arith in
    let inside = sym c.within.ensures ∙ c.if-not-within.false in
    rw (year, inside) (in_part a.labels.now a.table.at (a.table.rows * a.table.columns) c.raise_labels.ensures)

-- `moves::move_items` meets its contract. Assumes nothing.
use Prim.Native.Nat.{ℕ}
use mathlib.Core.Path.{◌≡◌, sym, ap, ◌∙◌}
use mathlib.Core.List.{List, ◌++◌}
use lib.ListN.{take, drop, take-append-drop}
use lib.Seq.{drop-drop}
use Rattle.cells.specs.promises.Cells.{moved}
use Rattle.cells.proofs.Written.{one-copied}
use Rattle.moves.proofs.move_items.Goals as goal

-- elements moved to their own place are as they were
moved_nowhere : {A : Type 0} (at count : ℕ) (list : List A) → list ≡ moved at at count list
moved_nowhere at count list =
    sym (take-append-drop at list) ∙ ap (λ rest. take at list ++ rest) (sym (take-append-drop count (drop at list)) ∙ ap (λ rest. take count (drop at list) ++ rest) (drop-drop count at list))

pub returns-then-from-to : goal.returns-then-from-to
returns-then-from-to g c = rw c.if-from-to.true (moved_nowhere c.args.to c.args.count c.args.items.now)

pub loop-i-preserved : goal.loop-i-preserved
loop-i-preserved g c =
    let i = c.loop-i.invariant in
    (i.0, rw (← c.index-items-from.is) at (one-copied i.0 c.loop-i.i c.index-items-from.result c.loop-i-test.true i.1))

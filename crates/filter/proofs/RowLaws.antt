-- The rows that pass a test. Assumes nothing.
use Prim.Native.Nat.{ℕ, suc, ◌≤◌}
use mathlib.Core.Path.{◌≡◌, refl}
use mathlib.Core.Bool.{Bool, true, false, cond}
use mathlib.Core.List.{List, [], ◌∷◌, ◌++◌}
use native.Mathlib.Omega.{arith}
use lib.ListN.{length}
use Rattle.plan.specs.Filter.{passing}
use Rattle.plan.specs.Table.{Row, Each}
use Rattle.cells.specs.promises.Cells.{Wide}

pub passing-append : (pass : Row → Bool) (xs ys : List Row) → passing pass (xs ++ ys) ≡ passing pass xs ++ passing pass ys
passing-append pass [] ys = refl
passing-append pass (x ∷ xs) ys = rw (passing-append pass xs ys) (either (pass x))
  where
    either : (b : Bool) → cond b (x ∷ (passing pass xs ++ passing pass ys)) (passing pass xs ++ passing pass ys) ≡ cond b (x ∷ passing pass xs) (passing pass xs) ++ passing pass ys
    either true = refl
    either false = refl

pub passing-wide : (w : ℕ) (pass : Row → Bool) (rows : List Row) → Each (Wide w) rows → Each (Wide w) (passing pass rows)
passing-wide w pass [] e = tt
passing-wide w pass (row ∷ rows) e = either (pass row) (passing-wide w pass rows e.1)
  where
    either : (b : Bool) → Each (Wide w) (passing pass rows) → Each (Wide w) (cond b (row ∷ passing pass rows) (passing pass rows))
    either true f = (e.0, f)
    either false f = f

pub passing-fewer : (pass : Row → Bool) (rows : List Row) → length (passing pass rows) ≤ length rows
passing-fewer pass [] = omega arith
passing-fewer pass (row ∷ rows) = either (pass row) (passing-fewer pass rows)
  where
    either : (b : Bool) → length (passing pass rows) ≤ length rows → length (cond b (row ∷ passing pass rows) (passing pass rows)) ≤ suc (length rows)
    either true h = omega arith
    either false h = omega arith

-- A year without the floor. Assumes nothing.
use Prim.Native.Nat.{ℕ}
use mathlib.Core.Path.{◌≡◌}
use mathlib.Core.Bool.{and-false}
use native.Mathlib.Omega.{arith}
use borrow.Author.Tests.{le-ltb, ne_eqb}
use Rattle.label_floor.specs.Floor.{floored}
use Rattle.label_words.specs.Word.{has_a, minimum_of}

-- it reads every label as it is
pub no-floor : (year label : ℕ) → (year ≡ 1 → ⊥) → floored year label ≡ label
unfolding floored
no-floor year label h = rw (ne_eqb year 1 h, le-ltb (minimum_of label) 0 (omega arith), and-false (has_a label))

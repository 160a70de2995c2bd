-- Labels read under a year one after the other. Assumes nothing.
use Prim.Native.Nat.{ℕ, ◌+◌, ◌-◌, ◌*◌}
use mathlib.Core.Path.{◌≡◌, refl, sym, ap₂}
use mathlib.Core.Bool.{Bool, true, false, cond}
use mathlib.Core.List.{List, [], ◌∷◌, map}
use native.Mathlib.Omega.{arith}
use borrow.Rule.Slice.PartMut.{mid_of, put_mid}
use lib.ListN.{length, take, drop, take-append-drop}
use lib.Seq.{drop-drop}
use Rattle.cells.specs.promises.Search.{table_within}
use Rattle.floors.specs.promises.Flooring.{floored_at, after_floor}
use Rattle.label_floor.specs.Floor.{floored}
use Rattle.label_floor.proofs.NoFloor.{no-floor}

-- ---- under the floor

-- what the part from a place on holds now is each of its labels with the floor
pub in_part : (labels : List ℕ) (at count : ℕ) {now : List ℕ} → now ≡ map (floored 1) (mid_of at (at + count - at) labels)
    → put_mid at (at + count - at) labels now ≡ floored_at 1 at count labels
in_part labels at count e = let n : at + count - at ≡ count = omega arith in rw (e, n, drop-drop count at labels)

-- ---- under another year

all_same : (year : ℕ) (labels : List ℕ) → (year ≡ 1 → ⊥) → map (floored year) labels ≡ labels
all_same year [] h = refl
all_same year (first ∷ rest) h = ap₂ ◌∷◌ (no-floor year first h) (all_same year rest h)

pub unchanged : (year at rows columns : ℕ) (labels : List ℕ) → (year ≡ 1 → ⊥) → labels ≡ after_floor year at rows columns labels
unfolding after_floor
unchanged year at rows columns labels h = either (table_within at rows columns (length labels)) (rows * columns)
  where
    either : (b : Bool) (count : ℕ) → labels ≡ cond b (floored_at year at count labels) labels
    either true count =
        sym (rw (all_same year (take count (drop at labels)) h, ← drop-drop count at labels, take-append-drop count (drop at labels), take-append-drop at labels))
    either false count = refl

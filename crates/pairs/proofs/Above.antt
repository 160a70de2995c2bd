-- Cells written in order above the cells that they are copied from. Assumes nothing.
use Prim.Native.Nat.{ℕ, suc, ◌+◌, ◌-◌, ◌≤◌, ◌<◌, min}
use mathlib.Core.Path.{◌≡◌, sym, ap, ap₂, ◌∙◌}
use mathlib.Core.Bool.{Bool}
use mathlib.Core.List.{List, [], ◌∷◌, ◌++◌, append_assoc}
use native.Mathlib.Omega.{arith}
use lib.IntN.{ℤ}
use lib.ListN.{length, take, drop, length-append, length-drop}
use lib.Seq.{length-take-le, drop_at, take-add, take-take, drop-drop}
use Rattle.cells.specs.promises.Cells.{cells_of, bare_row}
use Rattle.cells.specs.promises.Work.{Work, work, cells_in, room, Kept}
use Rattle.cells.specs.promises.Written.{Written, Put}
use Rattle.plan.specs.Join.{joined_row}
use Rattle.plan.specs.Table.{Cell}
use Rattle.cells.proofs.CellLaws.{cells-length, kept_then, AfterMove, put_up}
use Rattle.memory.proofs.Stacks.{part-of-front}
use Rattle.cells.proofs.Written.{as_long, below-written, then-written}

-- ---- the two slices

-- as long as the shorter one
cells_count : (vs : List ℤ) (ls : List ℕ) → length (cells_of vs ls) ≡ min (length vs) (length ls)
cells_count [] ls = omega arith
cells_count (v ∷ vs) [] = omega arith
cells_count (v ∷ vs) (l ∷ ls) = omega (arith, cells_count vs ls)

pub cells_same : {w u : Work} → Kept w u → length (cells_in u) ≡ length (cells_in w)
cells_same {w} {u} k = cells_count u.values u.labels ∙ ap₂ min k.as-many-values k.as-many-labels ∙ sym (cells_count w.values w.labels)

module _ (memory : List Cell) (long : room ≤ length memory) where
  -- a part below the place from which on memory was changed
  pub part_same : (after : List Cell) (from count n : ℕ) → length after ≡ length memory → from + count ≤ n → n ≤ room → take n after ≡ take n memory
      → take count (drop from after) ≡ take count (drop from memory)
  part_same after from count n same h m e =
      sym (part-of-front from count n after h (omega arith)) ∙ ap (λ (l : List Cell). take count (drop from l)) e ∙ part-of-front from count n memory h (omega arith)

  -- a part below the place written from is copied behind what was written
  then-copied-up : {done mid after : List Cell} {at : ℕ} → Written memory at done mid → (from to count : ℕ) → to ≡ at + length done → from + count ≤ at → to ≤ room
      → Written mid to (take count (drop from mid)) after → Written memory at (done ++ take count (drop from memory)) after
  then-copied-up {done} {mid} {after} {at} w from to count e h k u =
      let part = part_same mid from count at (as_long w) h (omega arith) (below-written w) in
      rw (← part) (then-written w e u)

  -- the cells of a row, and those of another without one, copied one after the other
  row_copied : {first second third : List Cell} (n m b at other to : ℕ) → b < m → at + n ≤ to → other + m ≤ to → to + (n + (m - 1)) ≤ room
      → Written memory to (take n (drop at memory)) first → Written first (to + n) (take b (drop other first)) second
      → Written second (to + n + b) (take (m - b - 1) (drop (other + b + 1) second)) third
      → Written memory to (joined_row b (bare_row (take n (drop at memory))) (bare_row (take m (drop other memory)))).cells third
  row_copied n m b at other to k h g r w₁ u₂ u₃ =
      let X = take n (drop at memory) in
      let Y = take b (drop other memory) in
      let x : length X ≡ n = length-take-le n (drop at memory) (simp length-drop (omega arith)) in
      let y : length Y ≡ b = length-take-le b (drop other memory) (simp length-drop (omega arith)) in
      let w₂ = then-copied-up w₁ other (to + n) b (omega arith) (omega arith) (omega arith) u₂ in
      let w₃ = then-copied-up w₂ (other + b + 1) (to + n + b) (m - b - 1) (simp length-append (omega arith)) (omega arith) (omega arith) u₃ in
      rw (take-take b m (drop other memory) (omega arith), without-first) (rw (append_assoc X Y _) at w₃)
    where
      without-first : drop (suc b) (take m (drop other memory)) ≡ take (m - b - 1) (drop (other + b + 1) memory)
      without-first =
          let O = drop other memory in
          let sum : suc b + (m - b - 1) ≡ m = omega arith in
          let place : other + suc b ≡ other + b + 1 = omega arith in
          let whole : length (take (suc b) O) ≡ suc b = length-take-le (suc b) O (simp length-drop (omega arith)) in
          ap (λ (k : ℕ). drop (suc b) (take k O)) (sym sum) ∙ ap (drop (suc b)) (take-add (suc b) (m - b - 1) O) ∙ drop_at (take (suc b) O) _ (suc b) whole
          ∙ ap (take (m - b - 1)) (drop-drop (suc b) other memory ∙ ap (λ (k : ℕ). drop k memory) place)

-- the same, of what the three moves leave of work memory
pub row-moved : (w : Work) {us us₂ us₃ : List ℤ} {ks ks₂ ks₃ : List ℕ} {p q r : Bool} (n m b at other to : ℕ) → room ≤ length w.values → room ≤ length w.labels
    → b < m → at + n ≤ to → other + m ≤ to → to + (n + (m - 1)) ≤ room
    → AfterMove at to n w p us ks → AfterMove other (to + n) b (work us ks) q us₂ ks₂ → AfterMove (other + b + 1) (to + n + b) (m - b - 1) (work us₂ ks₂) r us₃ ks₃
    → Put to (joined_row b (bare_row (take n (drop at (cells_in w)))) (bare_row (take m (drop other (cells_in w))))).cells w (work us₃ ks₃)
row-moved w {us} {us₂} {us₃} {ks} {ks₂} {ks₃} n m b at other to v l k h g reach first second third =
    let put₁ = put_up w at to n h (omega arith) v l first in
    let v₁ : room ≤ length us = omega (arith, put₁.kept.as-many-values) in
    let l₁ : room ≤ length ks = omega (arith, put₁.kept.as-many-labels) in
    let put₂ = put_up (work us ks) other (to + n) b (omega arith) (omega arith) v₁ l₁ second in
    let v₂ : room ≤ length us₂ = omega (arith, put₂.kept.as-many-values) in
    let l₂ : room ≤ length ks₂ = omega (arith, put₂.kept.as-many-labels) in
    let put₃ = put_up (work us₂ ks₂) (other + b + 1) (to + n + b) (m - b - 1) (omega arith) (omega arith) v₂ l₂ third in
    record {
      written = row_copied (cells_in w) (cells-length w room v l) n m b at other to k h g reach put₁.written put₂.written put₃.written;
      kept = kept_then put₁.kept (kept_then put₂.kept put₃.kept);
    }

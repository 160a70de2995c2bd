-- Labels composed one after the other. Assumes nothing.
use Prim.Native.Nat.{ℕ, zero, suc, ◌+◌, ◌<◌}
use mathlib.Core.Path.{◌≡◌, refl, sym, ap, ◌∙◌}
use mathlib.Core.Bool.{Bool, true, false, cond, ◌&&◌}
use mathlib.Core.List.{List, [], ◌∷◌, ◌++◌}
use native.Mathlib.Nat.{add-zero, add-suc, suc-add, zero-add}
use native.Mathlib.Numerals.{add-one}
use native.Mathlib.Omega.{arith}
use lib.ListN.{length, get_or, take, drop, set}
use Rattle.label_composition.specs.Composition.{composed}
use Rattle.label_words.specs.WellFormed.{well_formed}
use Rattle.label_laws.proofs.Laws.{compose-clear, zero-well-formed}
use Rattle.overlay_part.specs.OverlayPart.{label_in}
use Rattle.overlay_reader.specs.promises.Composing.{composed_or, composed_labels}

-- a clear label changes nothing
pub with_clear : (a b : ℕ) → b ≡ 0 → a ≡ composed_or a b
with_clear a b e = rw e (go (well_formed a) refl)
  where
    go : (t : Bool) → well_formed a ≡ t → a ≡ cond (t && well_formed 0) (composed a 0) a
    go true w = rw zero-well-formed (sym (compose-clear a w).0)
    go false w = refl

-- the labels of which so many are composed
abbrev pub composed_to : List ℕ → ℕ → List ℕ → ℕ → List ℕ
composed_to part cell labels n = composed_labels part cell (take n labels) ++ drop n labels

one-more : (part : List ℕ) (cell : ℕ) (labels : List ℕ) (n : ℕ) → n < length labels
    → composed_to part cell labels (suc n) ≡ set (composed_to part cell labels n) n (composed_or (get_or (composed_to part cell labels n) n 0) (label_in part (cell + n)))
one-more part cell [] n h = absurd (omega arith)
one-more part cell (first ∷ rest) zero h = rw (add-zero cell)
one-more part cell (first ∷ rest) (suc n) h =
    ap (λ (l : List ℕ). composed_or first (label_in part cell) ∷ l) (one-more part (suc cell) rest n (omega arith) ∙ rw (add-suc cell n, suc-add cell n))

-- one label more
pub label_composed : (part labels now : List ℕ) (n x y : ℕ) → now ≡ composed_to part 0 labels n → n < length labels → y ≡ label_in part n
    → x ≡ composed_or (get_or now n 0) y → set now n x ≡ composed_to part 0 labels (n + 1)
label_composed part labels now n x y s h f e = rw (add-one n, one-more part 0 labels n h, zero-add n, ← s, ← f, ← e)

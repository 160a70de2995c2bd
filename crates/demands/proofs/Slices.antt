-- Elements at the start of a slice. Assumes nothing.
use Prim.Native.Nat.{ℕ, ◌≤◌, ◌<◌}
use mathlib.Core.Path.{◌≡◌, ap, ◌∙◌}
use mathlib.Core.List.{List, ◌++◌}
use native.Mathlib.Omega.{arith}
use lib.ListN.{length, get_or, drop, replicate, length-append, length-drop, length-replicate, get_or-replicate, get_or-append}
use lib.Seq.{drop_at}
use Rattle.zeros.specs.Zeros.{filled}
use Rattle.zeros.proofs.Laws.{filled_is}

module _ {A : Type 0} (count : ℕ) (x : A) (list : List A) where
  pub filled-get : (i : ℕ) (d : A) → i < count → get_or (filled count x list) i d ≡ x
  filled-get i d h =
      rw (filled_is count x list, get_or-append (replicate count x) (drop count list) d i (rw (length-replicate count x) h)) (get_or-replicate count i x d h)

  pub filled-past : drop count (filled count x list) ≡ drop count list
  filled-past = ap (drop count) (filled_is count x list) ∙ drop_at (replicate count x) (drop count list) count (length-replicate count x)

  pub filled-length : count ≤ length list → length (filled count x list) ≡ length list
  filled-length h = ap length (filled_is count x list) ∙ simp (length-append, length-drop, length-replicate) (omega arith)

-- elements put over those at the start
pub over-length : {A : Type 0} (news old : List A) → length news ≤ length old → length (news ++ drop (length news) old) ≡ length old
over-length news old h = simp (length-append, length-drop) (omega arith)

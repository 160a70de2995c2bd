-- So many elements of a list from a place on. Assumes nothing.
use Prim.Native.Nat.{ℕ, ◌+◌, ◌≤◌, ◌<◌}
use mathlib.Core.Path.{◌≡◌, ap, ◌∙◌}
use mathlib.Core.List.{List, [], ◌∷◌, ◌++◌}
use native.Mathlib.Numerals.{add-one}
use native.Mathlib.Omega.{arith}
use lib.ListN.{length, get_or, take, drop, length-drop}
use lib.Seq.{length-take-le, take-suc, get_or-drop}

module _ {A : Type 0} (list : List A) (at n : ℕ) where
  pub part_length : at + n ≤ length list → length (take n (drop at list)) ≡ n
  part_length h = length-take-le n (drop at list) (simp length-drop (omega arith))

  pub part-more : (d : A) → at + n < length list → take (n + 1) (drop at list) ≡ take n (drop at list) ++ (get_or list (at + n) d ∷ [])
  part-more d h =
      ap (λ (i : ℕ). take i (drop at list)) (add-one n) ∙ take-suc (drop at list) n d (simp length-drop (omega arith))
      ∙ ap (λ (x : A). take n (drop at list) ++ (x ∷ [])) (get_or-drop at list n d)

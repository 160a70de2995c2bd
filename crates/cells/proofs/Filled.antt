-- Elements written one after the other from the start of a list. Assumes nothing.
use Prim.Native.Nat.{ℕ, ◌+◌, ◌≤◌, ◌<◌}
use mathlib.Core.Path.{◌≡◌, sym, ap, ◌∙◌}
use mathlib.Core.List.{List, [], ◌∷◌, ◌++◌}
use native.Mathlib.Omega.{arith}
use lib.ListN.{length, get_or, take, drop, set, replicate, length-replicate, replicate-append-replicate}
use Rattle.cells.specs.promises.Written.{Written}
use Rattle.cells.proofs.Written.{one_written}
use Rattle.cells.proofs.Parts.{part_length, part-more}

module _ {A : Type 0} where
  -- one more, behind what was written
  next-written : {list done after : List A} (n : ℕ) (x : A) → Written list 0 done after → length done ≡ n → n < length list → Written list 0 (done ++ (x ∷ [])) (set after n x)
  next-written {done = done} n x w e h = let k : n ≡ 0 + length done = omega arith in rw k (one_written w x (omega arith))

  -- the whole, with nothing before what was written
  all-written : {list done after : List A} (n : ℕ) → Written list 0 done after → length done ≡ n → after ≡ done ++ drop n list
  all-written {list} {done} n w e = let k : 0 + length done ≡ n = omega arith in w.is ∙ ap (λ (i : ℕ). done ++ drop i list) k

  -- ---- values of another list

  pub next-copied : {list after : List A} (source : List A) (at n : ℕ) (d : A) → Written list 0 (take n (drop at source)) after → at + n < length source → n < length list
      → Written list 0 (take (n + 1) (drop at source)) (set after n (get_or source (at + n) d))
  next-copied source at n d w h k = rw (part-more source at n d h) (next-written n (get_or source (at + n) d) w (part_length source at n (omega arith)) k)

  pub all-copied : {list after : List A} (source : List A) (at n : ℕ) → Written list 0 (take n (drop at source)) after → at + n ≤ length source
      → after ≡ take n (drop at source) ++ drop n list
  all-copied source at n w h = all-written n w (part_length source at n h)

  -- ---- one value

  pub next-filled : {list after : List A} (n : ℕ) (x : A) → Written list 0 (replicate n x) after → n < length list → Written list 0 (replicate (n + 1) x) (set after n x)
  next-filled n x w h = rw (sym (replicate-append-replicate n 1 x)) (next-written n x w (length-replicate n x) h)

  pub all-filled : {list after : List A} (n count : ℕ) (x : A) → Written list 0 (replicate n x) after → n ≡ count
      → after ≡ replicate count x ++ drop count list
  all-filled {list} n count x w e = all-written n w (length-replicate n x) ∙ ap (λ (i : ℕ). replicate i x ++ drop i list) e

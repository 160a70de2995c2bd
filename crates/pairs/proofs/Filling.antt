-- A part of a slice filled with one element. Assumes nothing.
use Prim.Native.Nat.{ℕ, ◌+◌, ◌-◌, ◌≤◌}
use mathlib.Core.Path.{◌≡◌, sym, ap, ap₂, ◌∙◌}
use mathlib.Core.List.{List, ◌++◌}
use native.Mathlib.Omega.{arith}
use lib.ListN.{length, take, drop, replicate, length-replicate}
use borrow.Rule.Slice.PartMut.{mid_of, put_mid, mid_len, Post-is}
use Rattle.cells.specs.promises.Written.{Written}

pub filled : (list new : List ℕ) (at to mark : ℕ) → at ≤ to → to ≤ length list → new ≡ replicate (length (mid_of at (to - at) list)) mark
    → Written list at (replicate (to - at) mark) (put_mid at (to - at) list new)
filled list new at to mark h k e =
    let n = mid_len at to list k in
    let long : at + length (replicate (to - at) mark) ≡ to = rw (length-replicate (to - at) mark) (omega arith) in
    record {
      room = omega (arith, long);
      is = ap (λ (l : List ℕ). take at list ++ l) (ap₂ ◌++◌ (e ∙ ap (λ (n : ℕ). replicate n mark) n) (Post-is at to list h ∙ ap (λ (n : ℕ). drop n list) (sym long)));
    }

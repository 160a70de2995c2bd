-- What the check of a directory has come to at a pair. Assumes nothing.
use Prim.Native.Nat.{ℕ, suc, ◌+◌, ◌-◌, ◌*◌, ◌≤◌, ◌<◌}
use mathlib.Core.Path.{◌≡◌, sym, ◌∙◌}
use mathlib.Core.Bool.{not}
use mathlib.Core.List.{List}
use native.Mathlib.Nat.{sub-zero}
use native.Mathlib.Numerals.{add-one}
use native.Mathlib.Omega.{arith}
use lib.Dec.{eqb}
use lib.ListN.{length}
use borrow.Author.Tests.{eq-eqb, ne_eqb}
use Rattle.input.specs.Verdict.{rejected, and_then, reject_if}
use Rattle.layout.specs.Layout.{pair_at, offset_of, length_of}
use Rattle.directory.specs.Directory.{check_pairs, check_directory}
use Rattle.input.proofs.Laws.{one_left}

-- what is left of it under each number, and the place of the pair before
pub record Pairs (bytes : List ℕ) (count index place expected : ℕ) : Type 0 where
  pub few : count < 65536
  pub done : index ≤ count
  pub small : expected ≤ 600000 + 4294967296 * index
  pub last : place ≡ pair_at (index - 1)
  pub left : (number : ℕ) → check_directory number count bytes ≡ check_pairs number bytes index (count - index) expected

pub begin : (bytes : List ℕ) (count : ℕ) → count < 65536 → Pairs bytes count 0 2 (2 + 8 * count)
unfolding check_directory
begin bytes count few = record {
  few = few;
  done = omega arith;
  small = omega arith;
  last = omega arith;
  left = λ number. rw (sub-zero count);
}

module _ {bytes : List ℕ} {count index place expected : ℕ} (p : Pairs bytes count index place expected) where
  pair : index < count → (number : ℕ)
      → check_directory number count bytes
      ≡ and_then (reject_if (not (eqb (offset_of bytes index) expected)) number (pair_at index))
      (check_pairs number bytes (suc index) (count - suc index) (expected + length_of bytes index))
  pair h number = p.left number ∙ rw (one_left index count h)

  pub misplaced : (x : ℕ) → index < count → x ≡ offset_of bytes index → (x ≡ expected → ⊥) → (number : ℕ)
      → rejected number (pair_at index) ≡ check_directory number count bytes
  misplaced x h e n number = rw (pair h number, ne_eqb (offset_of bytes index) expected (λ f. n (e ∙ f)))

  pub keep : (x n : ℕ) → index < count → x ≡ offset_of bytes index → x ≡ expected → n ≡ length_of bytes index → n < 4294967296
      → Pairs bytes count (index + 1) (2 + 8 * index) (expected + n)
  keep x n h e f g b =
      let s = p.small in
      record {
        few = p.few;
        done = omega arith;
        small = omega arith;
        last = omega arith;
        left = λ number. rw (add-one index, g, pair h number, eq-eqb (offset_of bytes index) expected (sym e ∙ f));
      }

  pub ended : count ≤ index → (number : ℕ) → check_directory number count bytes ≡ reject_if (not (eqb expected (length bytes))) number place
  ended h number = let z : count - index ≡ 0 = omega arith in p.left number ∙ rw (z, p.last)

-- The rows that hash values lead to. Assumes nothing.
use Prim.Native.Nat.{ℕ, ◌+◌, ◌<◌, ◌%◌}
use mathlib.Core.Path.{◌≡◌, refl, sym, ap, ◌∙◌}
use mathlib.Core.Bool.{Bool, true, false}
use mathlib.Core.List.{List}
use native.Mathlib.Nat.{mod-lt}
use native.Mathlib.Omega.{arith}
use lib.Dec.{eqb}
use lib.ListN.{length, get_or, set, replicate, get_or-replicate, length-set}
use lib.Seq.{get_or-set_same, get_or-set_other}
use borrow.Author.Count.{below_more}
use borrow.Author.Tests.{eqb-true, eqb-false}
use Rattle.std.specs.Prelude.{Option, Some, None}
use Rattle.mark_numbers.specs.promises.Numbers.{first_of, Guess}
use Rattle.mark_numbers.proofs.Firsts.{first-here, first-upto, first-own}

-- the hash value of a row's mark
abbrev pub bucket_of : List ℕ → ℕ → ℕ
bucket_of marks row = get_or marks row 0 % 4096

-- a row before one that is the first with its mark; or none, and then no row before has the hash value
abbrev pub Last : List ℕ → ℕ → ℕ → Option ℕ → Type 0
Last marks row bucket None = (other : ℕ) → other < row → bucket_of marks other ≡ bucket → ⊥
Last marks row bucket (Some before) = (before < row) × (first_of marks before ≡ before)

-- each hash value has one
pub record Buckets (marks : List ℕ) (row : ℕ) (last : List (Option ℕ)) : Type 0 where
  pub full : length last ≡ 4096
  pub each : (bucket : ℕ) → bucket < 4096 → Last marks row bucket (get_or last bucket None)

pub bucket-small : (marks : List ℕ) (row : ℕ) → bucket_of marks row < 4096
bucket-small marks row = mod-lt (get_or marks row 0) (omega arith)

module _ (marks : List ℕ) where
  pub no_row : Buckets marks 0 (replicate 4096 None)
  no_row = record {
    full = refl;
    each = λ bucket h. rw (get_or-replicate {A = Option ℕ} 4096 bucket None None h) (λ other k. absurd (omega arith));
  }

  module _ (row : ℕ) (h : row < length marks) {last : List (Option ℕ)} (b : Buckets marks row last) where
    abbrev own : ℕ
    own = bucket_of marks row

    -- what a row's hash value leads to is a guess at the first row with its mark
    pub guessed : Guess marks row (get_or last own None)
    guessed = go (get_or last own None) (b.each own (bucket-small marks row))
      where
        go : (guess : Option ℕ) → Last marks row own guess → Guess marks row guess
        go None none = first-here marks row h row (omega arith) refl (λ j k f. none j k (ap (λ (m : ℕ). m % 4096) f))
        go (Some before) is = is

    module _ (first : ℕ) (is : first ≡ first_of marks row) where
      -- that of another hash value stays
      still : (bucket : ℕ) → (bucket ≡ own → ⊥) → (guess : Option ℕ) → Last marks row bucket guess → Last marks (row + 1) bucket guess
      still bucket n None none = below_more (λ other. bucket_of marks other ≡ bucket → ⊥) row none (λ f. n (sym f))
      still bucket n (Some before) p = (omega (arith, p.0), p.1)

      pub one-row : Buckets marks (row + 1) (set last own (Some first))
      one-row = record {
        full = length-set last own (Some first) ∙ b.full;
        each = λ bucket k. each bucket k (eqb bucket own) refl;
      }
        where
          each : (bucket : ℕ) → bucket < 4096 → (t : Bool) → eqb bucket own ≡ t → Last marks (row + 1) bucket (get_or (set last own (Some first)) bucket None)
          each bucket k true e =
              rw (eqb-true bucket own e, get_or-set_same last own (Some first) None (omega (arith, b.full, bucket-small marks row)))
              (omega (arith, is, first-upto marks row h), rw is (first-own marks row h))
          each bucket k false e =
              let n = eqb-false bucket own e in
              rw (get_or-set_other last own bucket (Some first) None n) (still bucket n (get_or last bucket None) (b.each bucket k))

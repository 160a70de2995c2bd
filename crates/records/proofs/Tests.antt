-- What a test of a record says, and what stands past the end of a plan. Assumes nothing.
use Prim.Native.Nat.{ℕ, ◌+◌, ◌*◌, ◌≤◌}
use mathlib.Core.Path.{◌≡◌, refl, sym, ap, ◌∙◌}
use mathlib.Core.Bool.{Bool, true, false}
use mathlib.Core.List.{List}
use native.Mathlib.Omega.{arith}
use native.Mathlib.Nat.{zero-add}
use lib.Dec.{eqb}
use lib.ListN.{length, get_or-eq_default}
use borrow.Author.Tests.{eq-eqb, ne_eqb, eqb-true, eqb-false}
use Rattle.std.specs.Prelude.{None}
use Rattle.std.specs.Int.Bits.{bit_or, or_zero_l}
use Rattle.std.proofs.lemmas.Nat.{le_or_l}
use Rattle.records.specs.Record.{fields_at, by_kind, step_of}
use Rattle.records.specs.declared.Fields.{Fields}
use Rattle.little_endian.proofs.Numbers.{past_end}

-- the step of a record whose kind is known
pub kind-is : (f : Fields) (k : ℕ) → f.spare ≡ 0 → f.kind ≡ k → step_of f ≡ by_kind k f
unfolding step_of
kind-is f k s e = rw (eq-eqb f.spare 0 s) (ap (λ (n : ℕ). by_kind n f) e)

-- a record past the end is of kind 0, which is no step
pub past-plan : (part : List ℕ) (step : ℕ) → length part ≤ 16 * step → None ≡ step_of (fields_at part step)
unfolding fields_at
past-plan part step h =
    sym (kind-is (fields_at part step) 0 (sym (past_end part (16 * step + 5) 3 (omega arith))) (get_or-eq_default part 0 h))

-- numbers that have no bit between them have no sum
or-none : (x s b : ℕ) → eqb x 0 ≡ eqb s 0 → eqb (bit_or x b) 0 ≡ eqb (s + b) 0
or-none x s b e = go (eqb s 0) refl
  where
    go : (t : Bool) → eqb s 0 ≡ t → eqb (bit_or x b) 0 ≡ eqb (s + b) 0
    go true f = let z = eqb-true x 0 (e ∙ f) in let y = eqb-true s 0 f in rw (z, y, or_zero_l, zero-add) refl
    go false f =
        let n : bit_or x b ≡ 0 → ⊥ = λ g. eqb-false x 0 (e ∙ f) (omega (arith, le_or_l x b)) in
        let m : s + b ≡ 0 → ⊥ = λ g. eqb-false s 0 f (omega arith) in
        ne_eqb (bit_or x b) 0 n ∙ sym (ne_eqb (s + b) 0 m)

pub or_2 : (c d : ℕ) → eqb (bit_or c d) 0 ≡ eqb (c + d) 0
or_2 c d = or-none c c d refl

pub or_3 : (b c d : ℕ) → eqb (bit_or (bit_or b c) d) 0 ≡ eqb (b + c + d) 0
or_3 b c d = or-none (bit_or b c) (b + c) d (or_2 b c)

pub or_4 : (a b c d : ℕ) → eqb (bit_or (bit_or (bit_or a b) c) d) 0 ≡ eqb (a + b + c + d) 0
or_4 a b c d = or-none (bit_or (bit_or a b) c) (a + b + c) d (or_3 a b c)

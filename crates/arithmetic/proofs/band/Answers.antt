-- `arithmetic::band` meets its contract: a value less how far it is above the multiple fits, and is the multiple; zero stands in for a number out of
-- range.
-- Assumes nothing.
use mathlib.Core.Path.{◌≡◌, refl, sym, ap, ap₂, ◌∙◌}
use mathlib.Core.Bool.{Bool, true, false, cond, ◌&&◌, and-true, and-eq-true_iff, false≢true}
use native.Mathlib.Omega.{arith}
use lib.Dec.{lit<}
use lib.IntN.{ℤ, pos, nat_abs, ◌-ℤ◌, ◌*ℤ◌}
use lib.Signed.{le_z}
use mir.Facts.{to_z-of_z}
use borrow.Author.Rules.{sfits_of}
use Rattle.value.specs.Division.{floored}
use Rattle.value.specs.Range.{in_range, both_in_range, OVER, settled}
use Rattle.arithmetic.specs.Arithmetic.{band}
use Rattle.value.proofs.Folded.{above-small, minus_minus}
use Rattle.value.proofs.Integers.{mag-minus}
use Rattle.value.proofs.Laws.Range.{over-out, settled-out}
use Rattle.value.proofs.Machine.{back, answered, said}
use Rattle.value.proofs.Sizes.{in_size, size_in}
use Rattle.arithmetic.proofs.band.Goals as goal
use Rattle.arithmetic.proofs.band.Goals.{After-above, Then-in_range-k}

-- the tests, in the definition's order
both-and : (a b c : Bool) → (a && c) ≡ true → ((a && b) && c) ≡ b
both-and true b true e = and-true b
both-and true b false e = absurd (false≢true e)
both-and false b c e = absurd (false≢true e)

neither : (a b c : Bool) → (a && c) ≡ false → ((a && b) && c) ≡ false
neither true true c e = e
neither true false c e = refl
neither false b c e = refl

-- the multiple of k not above v
abbrev multiple : ℤ → ℤ → ℤ
multiple k v = k *ℤ floored v (nat_abs k)

-- a value, or zero
abbrev inside : Bool → ℤ → ℤ
inside t v = cond t v (pos 0)

inside-in : (t : Bool) (v : ℤ) → t ≡ in_range v → in_range (inside t v) ≡ true
inside-in true v e = sym e
inside-in false v e = size_in (pos 0) (lit< tt)

guarded : (t : Bool) (k v : ℤ) → settled (cond t (inside t v -ℤ (inside t v -ℤ multiple k (inside t v))) OVER) ≡ cond t (settled (multiple k v)) OVER
guarded true k v = ap settled (minus_minus v (multiple k v))
guarded false k v = settled-out OVER over-out

-- what the function's own test says of k
known : (c : Then-in_range-k) → let k = c.args.k in (in_range k && le_z (pos 1) k) ≡ true
known c =
    let f = c.ranges.k in
    ap₂ ◌&&◌ (sym (said in_range f c.in_range.ensures)) (ap (le_z (pos 1)) (sym (to_z-of_z f))) ∙ c.if-in_range-k.true

known_both : (c : Then-in_range-k) → let k = c.args.k in (in_range k ≡ true) × (le_z (pos 1) k ≡ true)
known_both c = (and-eq-true_iff _ _).0 (known c)

module _ (c : After-above) where
  abbrev k : ℤ
  k = c.args.k

  abbrev v : ℤ
  v = c.args.v

  abbrev t : Bool
  t = c.in_range-inside.result

  tested : t ≡ in_range v
  tested = said in_range c.ranges.v c.in_range-inside.ensures

  taken : back c.chosen-w.result ≡ inside t v
  taken = answered c.chosen-w.type_inv (c.chosen-w.ensures ∙ ap (inside t) (to_z-of_z c.ranges.v))

  over : back c.above.result ≡ inside t v -ℤ multiple k (inside t v)
  over =
      answered c.above.type_inv c.above.ensures
      ∙ ap₂ (λ x y. x -ℤ multiple y x) taken (to_z-of_z c.ranges.k)

pub above-requires : goal.above-requires
above-requires c =
    rw (to_z-of_z c.ranges.k) (known_both (goal.at.above-requires c).Then-in_range-k).1

pub overflow_sub-w : goal.overflow_sub-w
unfolding floored
overflow_sub-w c =
    let h = known_both (goal.at.overflow_sub-w c).Then-in_range-k in
    let w = inside (t c) (v c) in
    let far = above-small (k c) w h.1 in
    rw (taken c, over c)
    (sfits_of
    (omega (arith, mag-minus w (w -ℤ multiple (k c) w) (in_size w (inside-in (t c) (v c) (tested c))) far, in_size (k c) h.0)))

pub returns-then-in_range-k : goal.returns-then-in_range-k
unfolding band both_in_range OVER
returns-then-in_range-k c =
    answered c.settled.type_inv
    (c.settled.ensures
    ∙ ap settled
    (answered c.chosen.type_inv
    (c.chosen.ensures ∙ ap (λ z. cond (t (goal.at.returns-then-in_range-k c).After-above) z OVER) (to_z-of_z (overflow_sub-w (goal.at.returns-then-in_range-k c).After-above) ∙ ap₂ ◌-ℤ◌ (taken (goal.at.returns-then-in_range-k c).After-above) (over (goal.at.returns-then-in_range-k c).After-above)))))
    ∙ guarded (t (goal.at.returns-then-in_range-k c).After-above) (k (goal.at.returns-then-in_range-k c).After-above) (v (goal.at.returns-then-in_range-k c).After-above)
    ∙ rw (both-and _ (in_range (v (goal.at.returns-then-in_range-k c).After-above)) _ (known (goal.at.returns-then-in_range-k c).Then-in_range-k), ← tested (goal.at.returns-then-in_range-k c).After-above)

pub returns-else-in_range-k : goal.returns-else-in_range-k
unfolding band both_in_range OVER
returns-else-in_range-k c =
    let f = c.ranges.k in
    rw (neither _ (in_range c.args.v) _
    (ap₂ ◌&&◌ (sym (said in_range f c.in_range.ensures)) (ap (le_z (pos 1)) (sym (to_z-of_z f))) ∙ c.if-in_range-k.false))

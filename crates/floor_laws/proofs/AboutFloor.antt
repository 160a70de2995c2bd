-- The laws of the floor: it changes the lowest ten bits of a label, the minimum, and nothing above them. Assumes nothing.
use Prim.Native.Nat.{ℕ, ◌+◌, ◌-◌, ◌*◌, ◌/◌, ◌^◌, ◌≤◌, ◌<◌, max}
use mathlib.Core.Path.{◌≡◌, refl, sym, ap, ◌∙◌}
use mathlib.Core.Bool.{Bool, true, false, cond, ◌&&◌, ◌||◌, and-eq-true_iff}
use native.Mathlib.Omega.{arith}
use lib.Bits.{bit_and, bit_or}
use lib.Dec.{eqb, leb, ltb, lit≤}
use borrow.Author.Tests.{eqb-false, ltb-true, ltb-false, leb-true, le-leb, lt-ltb}
use Rattle.floor_laws.specs.FloorLaws.{FloorKeeps, EarlierRule, FloorWellFormed, FloorAbove, FloorMonotone, FloorAgain, FloorComposed, FloorClear}
use Rattle.label_composition.specs.Composition.{merged, digits_with, transforms_both, digits_both, aggregates_both, minimum_both, noise_both, composed}
use Rattle.label_floor.specs.Floor.{floor_of, floored}
use Rattle.label_words.specs.WellFormed.{reserved_zero, transform_fits, minimum_fits, noise_fits, smallest_minimum, well_formed_from, well_formed}
use Rattle.label_words.specs.Word.{field_at, bit_at, has_a, stages_of, transforms_of, aggregates_of, minimum_of, packed}
use Rattle.label_composition.proofs.Composed.{minimum-lt}
use Rattle.label_floor.proofs.NoFloor.{no-floor}
use Rattle.label_laws.proofs.Laws.{fields, either-A}
use Rattle.label_words.proofs.Packed.{same-packed}
use Rattle.label_words.proofs.Words.{field_lt, field-of-upper}

-- ---- the minimum alone

-- the minimum of a label, as a year reads it
abbrev minimum_under : ℕ → ℕ → ℕ
minimum_under year label = cond (has_a label) (max (minimum_of label) (floor_of year)) (minimum_of label)

floor-le : (year : ℕ) → floor_of year ≤ 10
floor-le year = either (eqb year 1)
  where
    either : (b : Bool) → cond b 10 0 ≤ 10
    either true = omega arith
    either false = omega arith

under-lt : (p : Bool) (m f : ℕ) → m < 1024 → f ≤ 10 → cond p (max m f) m < 1024
under-lt true m f h k = omega arith
under-lt false m f h k = h

-- a word by its upper bits and its minimum: with the minimum as a floor f reads it
read : (p : Bool) (word upper m f : ℕ) → word ≡ upper * 1024 + m → cond (p && ltb m f) (word - m + f) word ≡ upper * 1024 + cond p (max m f) m
read true word upper m f w = by-test (ltb m f) refl
  where
    by-test : (b : Bool) → ltb m f ≡ b → cond b (word - m + f) word ≡ upper * 1024 + max m f
    by-test true e = omega (arith, ltb-true m f e)
    by-test false e = omega (arith, ltb-false m f e)
read false word upper m f w = w

split : (label : ℕ) → label ≡ label / 2 ^ 10 * 1024 + minimum_of label
unfolding field_at
split label = omega arith

module _ (year label : ℕ) where
  floored-is : floored year label ≡ label / 2 ^ 10 * 1024 + minimum_under year label
  unfolding floored
  floored-is = read (has_a label) label (label / 2 ^ 10) (minimum_of label) (floor_of year) (split label)

  minimum-below : minimum_under year label < 1024
  minimum-below = under-lt (has_a label) (minimum_of label) (floor_of year) (field_lt label 0 10) (floor-le year)

  upper-same : floored year label / 2 ^ 10 ≡ label / 2 ^ 10
  upper-same = omega (arith, floored-is, minimum-below)

  minimum-is : minimum_of (floored year label) ≡ minimum_under year label
  unfolding field_at
  minimum-is = omega (arith, floored-is, minimum-below)

  field-same : (at width : ℕ) → 10 ≤ at → field_at (floored year label) at width ≡ field_at label at width
  field-same at width h =
      let e : 10 + (at - 10) ≡ at = omega arith in
      rw (← e, ← field-of-upper (floored year label) 10 (at - 10) width, upper-same, field-of-upper label 10 (at - 10) width)

  bit-same : (at : ℕ) → 10 ≤ at → bit_at (floored year label) at ≡ bit_at label at
  bit-same at h = ap (λ (f : ℕ). eqb f 1) (field-same at 1 h)

  pub floor-keeps : FloorKeeps year label
  floor-keeps = record {
    stages = field-same 28 4 (lit≤ tt);
    transforms = field-same 24 4 (lit≤ tt);
    digits = field-same 10 3 (lit≤ tt);
    aggregates = field-same 16 5 (lit≤ tt);
    noise = field-same 23 1 (lit≤ tt);
    minimum = minimum-is;
  }

pub earlier-rule : EarlierRule
earlier-rule label = no-floor 0 label (eqb-false 0 1 refl)

-- ---- labels

-- a test of several parts, two of which change and stay true
still : (a a' b c d m m' e : Bool) → (a ≡ true → a' ≡ true) → (m ≡ true → m' ≡ true) → (a && b && c && (d && m) && e) ≡ true → (a' && b && c && (d && m') && e) ≡ true
still a a' b c d m m' e f g h =
    let p = (and-eq-true_iff (a && b && c && (d && m)) e).0 h in
    let q = (and-eq-true_iff (a && b && c) (d && m)).0 p.0 in
    let r = (and-eq-true_iff (a && b) c).0 q.0 in
    let s = (and-eq-true_iff a b).0 r.0 in
    let t = (and-eq-true_iff d m).0 q.1 in
    rw (f s.0, s.1, r.1, t.0, g t.1, p.1)

-- a minimum as it is read is no smaller, and at most 1,023
read_fits : (least : ℕ) (p : Bool) (m f : ℕ) → f ≤ 10 → minimum_fits least p m ≡ true → minimum_fits least p (cond p (max m f) m) ≡ true
unfolding minimum_fits
read_fits least true m f k h =
    let s = (and-eq-true_iff (leb least m) (leb m 1023)).0 h in
    rw (le-leb least (max m f) (omega (arith, leb-true least m s.0)), le-leb (max m f) 1023 (omega (arith, leb-true m 1023 s.1)))
read_fits least false m f k h = h

pub floor-well-formed : FloorWellFormed
unfolding well_formed well_formed_from
floor-well-formed year label wf =
    let same = field-same year label in
    let fits = minimum_fits smallest_minimum (has_a label) in
    rw (same 21 2 (lit≤ tt), same 13 3 (lit≤ tt), same 30 1 (lit≤ tt), same 24 4 (lit≤ tt), same 26 1 (lit≤ tt), same 10 3 (lit≤ tt), same 29 1 (lit≤ tt), same 16 5 (lit≤ tt), same 28 1 (lit≤ tt), same 23 1 (lit≤ tt), minimum-is year label)
    (still (ltb label (2 ^ 32)) (ltb (floored year label) (2 ^ 32)) (reserved_zero label) (transform_fits label) (has_a label || eqb (aggregates_of label) 0)
    (fits (minimum_of label)) (fits (minimum_under year label)) (noise_fits label)
    (λ e. lt-ltb (floored year label) (2 ^ 32) (omega (arith, ltb-true label (2 ^ 32) e, floored-is year label, minimum-below year label)))
    (read_fits smallest_minimum (has_a label) (minimum_of label) (floor_of year) (floor-le year)) wf)

read_above : (p : Bool) (m f : ℕ) → m ≤ cond p (max m f) m
read_above true m f = omega arith
read_above false m f = omega arith

pub floor-above : FloorAbove
floor-above year label = record {
  H = λ e. cc (bit-same year label 31 (lit≤ tt));
  T = λ e. cc (bit-same year label 30 (lit≤ tt));
  A = λ e. cc (bit-same year label 29 (lit≤ tt));
  N = λ e. cc (bit-same year label 28 (lit≤ tt));
  transforms = λ t operation h e. cc (bit-same year label (24 + operation) (omega arith));
  digits = λ t e. omega (arith, (floor-keeps year label).digits);
  aggregates = λ t operation h e. cc (bit-same year label (16 + operation) (omega arith));
  minimum = λ t. omega (arith, minimum-is year label, read_above (has_a label) (minimum_of label) (floor_of year));
  noise = λ t e. cc (bit-same year label 23 (lit≤ tt));
}

pub floor-monotone : FloorMonotone
floor-monotone year a b s = record {
  H = λ e. kept 31 (lit≤ tt) (s.H (mine 31 (lit≤ tt) e));
  T = λ e. kept 30 (lit≤ tt) (s.T (mine 30 (lit≤ tt) e));
  A = λ e. kept 29 (lit≤ tt) (s.A (mine 29 (lit≤ tt) e));
  N = λ e. kept 28 (lit≤ tt) (s.N (mine 28 (lit≤ tt) e));
  transforms = λ t operation h e.
      bit-same year a (24 + operation) (omega arith) ∙ s.transforms (mine 30 (lit≤ tt) t) operation h (sym (bit-same year b (24 + operation) (omega arith)) ∙ e);
  digits = λ t e.
      omega (arith, (floor-keeps year a).digits, (floor-keeps year b).digits, s.digits (mine 30 (lit≤ tt) t) (sym (bit-same year b 26 (lit≤ tt)) ∙ e));
  aggregates = λ t operation h e.
      bit-same year a (16 + operation) (omega arith) ∙ s.aggregates (mine 29 (lit≤ tt) t) operation h (sym (bit-same year b (16 + operation) (omega arith)) ∙ e);
  minimum = λ t.
      let h = mine 29 (lit≤ tt) t in
      rw (minimum-is year a, minimum-is year b, h, s.A h) (omega (arith, s.minimum h));
  noise = λ t e. bit-same year a 23 (lit≤ tt) ∙ s.noise (mine 28 (lit≤ tt) t) (sym (bit-same year b 23 (lit≤ tt)) ∙ e);
}
  where
    mine : (at : ℕ) → 10 ≤ at → bit_at (floored year a) at ≡ true → bit_at a at ≡ true
    mine at h e = sym (bit-same year a at h) ∙ e

    kept : (at : ℕ) → 10 ≤ at → bit_at b at ≡ true → bit_at (floored year b) at ≡ true
    kept at h e = bit-same year b at h ∙ e

-- a minimum that is read twice is read the same
read_twice : (p : Bool) (m f : ℕ) → cond p (max (cond p (max m f) m) f) (cond p (max m f) m) ≡ cond p (max m f) m
read_twice true m f = omega arith
read_twice false m f = refl

pub floor-again : FloorAgain
floor-again year label =
    floored-is year (floored year label)
    ∙ rw (upper-same year label, bit-same year label 29 (lit≤ tt), minimum-is year label, read_twice (has_a label) (minimum_of label) (floor_of year))
    (sym (floored-is year label))

pub floor-clear : FloorClear
unfolding floored field_at
floor-clear year = refl

-- ---- composition

-- the larger of two minima, as it is read, is the larger of what they are read as
read-both : (p q : Bool) (x y f : ℕ)
    → cond (p || q) (max (merged p q (max x y) x y) f) (merged p q (max x y) x y)
    ≡ merged p q (max (cond p (max x f) x) (cond q (max y f) y)) (cond p (max x f) x) (cond q (max y f) y)
read-both true true x y f = omega arith
read-both true false x y f = refl
read-both false true x y f = refl
read-both false false x y f = refl

-- a packed word with another minimum
repacked : (s t x g d m n : ℕ) → m < 1024 → packed s t x g d m / 2 ^ 10 * 1024 + n ≡ packed s t x g d n
unfolding packed
repacked s t x g d m n h = omega arith

module _ (year a b : ℕ) where
  -- a field above the minimum is merged as before
  both-same : (both : ℕ → ℕ → ℕ) (stage at width : ℕ) → 10 ≤ stage → 10 ≤ at
      → merged (bit_at a stage) (bit_at b stage) (both (field_at a at width) (field_at b at width)) (field_at a at width) (field_at b at width)
      ≡ merged (bit_at (floored year a) stage) (bit_at (floored year b) stage) (both (field_at (floored year a) at width) (field_at (floored year b) at width))
      (field_at (floored year a) at width) (field_at (floored year b) at width)
  both-same both stage at width h k = rw (bit-same year a stage h, bit-same year b stage h, field-same year a at width k, field-same year b at width k)

  stages-same : bit_or (stages_of a) (stages_of b) ≡ bit_or (stages_of (floored year a)) (stages_of (floored year b))
  stages-same = rw (field-same year a 28 4 (lit≤ tt), field-same year b 28 4 (lit≤ tt))

  digits_same : digits_both a b ≡ digits_both (floored year a) (floored year b)
  unfolding digits_both
  digits_same =
      rw (field-same year a 24 4 (lit≤ tt), field-same year b 24 4 (lit≤ tt))
      (both-same (λ (x y : ℕ). digits_with (bit_and (transforms_of a) (transforms_of b)) (max x y)) 30 10 3 (lit≤ tt) (lit≤ tt))

  minimum-both : minimum_under year (composed a b) ≡ minimum_both (floored year a) (floored year b)
  unfolding minimum_both
  minimum-both =
      rw (either-A a b, (fields a b).minimum, bit-same year a 29 (lit≤ tt), bit-same year b 29 (lit≤ tt), minimum-is year a, minimum-is year b)
      (read-both (has_a a) (has_a b) (minimum_of a) (minimum_of b) (floor_of year))

pub floor-composed : FloorComposed
unfolding composed transforms_both noise_both aggregates_both
floor-composed year a b =
    let same = both-same year a b bit_and in
    floored-is year (composed a b) ∙ repacked _ _ _ _ _ _ _ (minimum-lt a b)
    ∙ same-packed (stages-same year a b) (same 30 24 4 (lit≤ tt) (lit≤ tt)) (same 28 23 1 (lit≤ tt) (lit≤ tt)) (same 29 16 5 (lit≤ tt) (lit≤ tt))
    (digits_same year a b) (minimum-both year a b)

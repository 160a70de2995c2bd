-- The laws of labels, for callers to cite instead of the definitions' text. A word is a number; `well_formed word ≡ true` says that it is a label.
-- Assumes nothing.
use Prim.Native.Nat.{ℕ, ◌+◌, ◌<◌, max}
use mathlib.Core.Path.{◌≡◌, refl, sym, ◌∙◌}
use mathlib.Core.Bool.{Bool, true, false, cond, not, ◌&&◌, ◌||◌, true≢false, and_comm as swap}
use native.Mathlib.Nat.{max_comm}
use native.Mathlib.Omega.{arith}
use lib.Bits.{bit_and, bit_or, and_comm, or_comm, and_self, or_self, or_zero_r}
use lib.Dec.{eqb, ltb, eqb→eq, lit<}
use Rattle.label_composition.specs.Composition.{merged, transforms_both, digits_both, aggregates_both, minimum_both, noise_both, composed}
use Rattle.label_discharge.specs.Discharge.{forbids_t, forbids_a, forbids_n, after_t, after_a, after_n, allows_transform, allows_aggregate, discharges_a, allows_noise, without_t, without_a, without_n}
use Rattle.label_words.specs.Stages.{one, stage_count, highest, topmost}
use Rattle.label_words.specs.WellFormed.{digits_fit, minimum_fits, smallest_minimum, well_formed_from, well_formed}
use Rattle.label_words.specs.Word.{field_at, bit_at, has_h, has_t, has_a, has_n, stages_of, transforms_of, digits_of, aggregates_of, minimum_of, noise_of, packed}
use Rattle.label_laws.specs.Laws.{ComposedWellFormed, Commutative, Associative, Idempotent, ClearIsUnit, rank, ForbiddenAbove, DischargesHighest, DischargedWellFormed, NoiseClears, NoStageIsClear}
use Rattle.label_words.specs.declared.Highest.{Highest}
use Rattle.label_words.proofs.Below.{below}
use Rattle.label_words.proofs.Packed.{Fields, packed-fields, repacked, same-packed, bit-of-field, bit-or, bit-and}
use Rattle.label_words.proofs.Words.{field_lt}
use Rattle.label_composition.proofs.Composed.{and_below, stages-lt, transforms-lt, noise-lt, aggregates-lt, digits_lt, minimum-lt}
use Rattle.label_laws.proofs.Digits.{and_assoc, or_assoc}
use Rattle.label_laws.proofs.Merged.{merged-comm, merged-same, merged-zero, merged-assoc, digits-assoc, bits-fit, digits-fit, minimum-fits}
use Rattle.label_laws.proofs.Parts.{Parts, parts, whole, no-transforms, no-aggregates, no-noise, no-digits, no-minimum, no_cut}

-- ---- composition

module _ (a b : ℕ) where
  pub fields : Fields (composed a b) (bit_or (stages_of a) (stages_of b)) (transforms_both a b) (noise_both a b) (aggregates_both a b) (digits_both a b) (minimum_both a b)
  unfolding composed
  fields = packed-fields _ _ _ _ _ _ (stages-lt a b) (transforms-lt a b) (noise-lt a b) (aggregates-lt a b) (digits_lt a b) (minimum-lt a b)

  has_either : (i : ℕ) → i < 4 → bit_at (composed a b) (28 + i) ≡ (bit_at a (28 + i) || bit_at b (28 + i))
  has_either i h =
      rw (← bit-of-field (composed a b) 28 4 i h, fields.stages, bit-or (stages_of a) (stages_of b) i, bit-of-field a 28 4 i h, bit-of-field b 28 4 i h)

  -- "a stage is present if either has it"
  pub either-H : has_h (composed a b) ≡ (has_h a || has_h b)
  either-H = has_either 3 (lit< tt)

  pub either-T : has_t (composed a b) ≡ (has_t a || has_t b)
  either-T = has_either 2 (lit< tt)

  pub either-A : has_a (composed a b) ≡ (has_a a || has_a b)
  either-A = has_either 1 (lit< tt)

  pub either-N : has_n (composed a b) ≡ (has_n a || has_n b)
  either-N = has_either 0 (lit< tt)

pub compose-well-formed : ComposedWellFormed
unfolding transforms_both digits_both aggregates_both minimum_both noise_both
compose-well-formed a b wa wb =
    let p = parts a wa in
    let q = parts b wb in
    let f = fields a b in
    whole (composed a b) record {
      small = f.small;
      upper = f.upper;
      lower = f.lower;
      transforms = rw (either-T a b, f.transforms) (bits-fit (has_t a) (has_t b) _ _ _);
      digits = rw (f.transforms, f.digits) (digits-fit (has_t a) (has_t b) (transforms_of a) (transforms_of b) (digits_of a) (digits_of b) p.digits q.digits);
      aggregates = rw (either-A a b, f.aggregates) (bits-fit (has_a a) (has_a b) _ _ _);
      minimum = rw (either-A a b, f.minimum) (minimum-fits smallest_minimum (has_a a) (has_a b) (minimum_of a) (minimum_of b) p.minimum q.minimum);
      noise = rw (either-N a b, f.noise) (bits-fit (has_n a) (has_n b) _ _ _);
    }

pub compose-comm : Commutative
unfolding composed transforms_both digits_both aggregates_both minimum_both noise_both
compose-comm a b =
    same-packed (or_comm (stages_of a) (stages_of b)) (merged-comm (has_t a) (has_t b) _ _ (and_comm (transforms_of a) (transforms_of b)))
    (merged-comm (has_n a) (has_n b) _ _ (and_comm (noise_of a) (noise_of b))) (merged-comm (has_a a) (has_a b) _ _ (and_comm (aggregates_of a) (aggregates_of b)))
    (merged-comm (has_t a) (has_t b) _ _ (rw (and_comm (transforms_of a) (transforms_of b), max_comm (digits_of a) (digits_of b))))
    (merged-comm (has_a a) (has_a b) _ _ (max_comm (minimum_of a) (minimum_of b)))

-- what three labels compose to does not depend on how they are taken together
module _ (a b c : ℕ) where
  -- a field of the stage at bit 28 + i, whose values `both` merges
  field-assoc : (both : ℕ → ℕ → ℕ) → ((x y z : ℕ) → both (both x y) z ≡ both x (both y z)) → (i : ℕ) → i < 4 → (field : ℕ → ℕ)
      → ((x y : ℕ) → field (composed x y) ≡ merged (bit_at x (28 + i)) (bit_at y (28 + i)) (both (field x) (field y)) (field x) (field y))
      → merged (bit_at (composed a b) (28 + i)) (bit_at c (28 + i)) (both (field (composed a b)) (field c)) (field (composed a b)) (field c)
      ≡ merged (bit_at a (28 + i)) (bit_at (composed b c) (28 + i)) (both (field a) (field (composed b c))) (field a) (field (composed b c))
  field-assoc both assoc i h field made =
      rw (has_either a b i h, made a b, has_either b c i h, made b c)
      (merged-assoc both assoc (bit_at a (28 + i)) (bit_at b (28 + i)) (bit_at c (28 + i)) (field a) (field b) (field c))

  transforms-assoc : transforms_both (composed a b) c ≡ transforms_both a (composed b c)
  unfolding transforms_both
  transforms-assoc = field-assoc bit_and and_assoc 2 (lit< tt) transforms_of (λ x y. (fields x y).transforms)

  noise-assoc : noise_both (composed a b) c ≡ noise_both a (composed b c)
  unfolding noise_both
  noise-assoc = field-assoc bit_and and_assoc 0 (lit< tt) noise_of (λ x y. (fields x y).noise)

  aggregates-assoc : aggregates_both (composed a b) c ≡ aggregates_both a (composed b c)
  unfolding aggregates_both
  aggregates-assoc = field-assoc bit_and and_assoc 1 (lit< tt) aggregates_of (λ x y. (fields x y).aggregates)

  minimum-assoc : minimum_both (composed a b) c ≡ minimum_both a (composed b c)
  unfolding minimum_both
  minimum-assoc = field-assoc max (λ x y z. omega arith) 1 (lit< tt) minimum_of (λ x y. (fields x y).minimum)

  digits_same : digits_both (composed a b) c ≡ digits_both a (composed b c)
  unfolding digits_both transforms_both
  digits_same =
      rw (either-T a b, (fields a b).transforms, (fields a b).digits, either-T b c, (fields b c).transforms, (fields b c).digits)
      (digits-assoc (has_t a) (has_t b) (has_t c) (transforms_of a) (transforms_of b) (transforms_of c) (digits_of a) (digits_of b) (digits_of c))

  stages-assoc : bit_or (stages_of (composed a b)) (stages_of c) ≡ bit_or (stages_of a) (stages_of (composed b c))
  stages-assoc = rw ((fields a b).stages, (fields b c).stages) (or_assoc (stages_of a) (stages_of b) (stages_of c))

pub compose-assoc : Associative
unfolding composed
compose-assoc a b c = same-packed (stages-assoc a b c) (transforms-assoc a b c) (noise-assoc a b c) (aggregates-assoc a b c) (digits_same a b c) (minimum-assoc a b c)

cut-same : (allowed : Bool) (digits : ℕ) → (allowed ≡ false → digits ≡ 0) → cond allowed (max digits digits) 0 ≡ digits
cut-same true digits none = omega arith
cut-same false digits none = sym (none refl)

module _ (a : ℕ) (wf : well_formed a ≡ true) where
  part : Parts a
  part = parts a wf

  is-packed : packed (stages_of a) (transforms_of a) (noise_of a) (aggregates_of a) (digits_of a) (minimum_of a) ≡ a
  is-packed = repacked a part.small part.upper part.lower

  itself : composed a a ≡ a
  unfolding composed transforms_both digits_both aggregates_both minimum_both noise_both
  itself =
      same-packed (or_self (stages_of a))
      (merged-same (has_t a) _ _ (λ _. and_self (transforms_of a)) (no-transforms a part))
      (merged-same (has_n a) _ _ (λ _. and_self (noise_of a)) (no-noise a part))
      (merged-same (has_a a) _ _ (λ _. and_self (aggregates_of a)) (no-aggregates a part))
      (merged-same (has_t a) _ _ (λ _. rw (and_self (transforms_of a)) (cut-same (bit_at (transforms_of a) 2) (digits_of a) (no-digits a part))) (no_cut a part))
      (merged-same (has_a a) _ _ (λ _. omega arith) (no-minimum a part))
      ∙ is-packed

  with-clear : composed a 0 ≡ a
  unfolding composed transforms_both digits_both aggregates_both minimum_both noise_both field_at
  with-clear =
      same-packed (or_zero_r (stages_of a)) (merged-zero (has_t a) _ _ (no-transforms a part)) (merged-zero (has_n a) _ _ (no-noise a part))
      (merged-zero (has_a a) _ _ (no-aggregates a part)) (merged-zero (has_t a) _ _ (no_cut a part)) (merged-zero (has_a a) _ _ (no-minimum a part))
      ∙ is-packed

pub compose-idem : Idempotent
compose-idem = itself

pub compose-clear : ClearIsUnit
compose-clear a wf = (with-clear a wf, compose-comm 0 a ∙ with-clear a wf)

-- ---- discharge

-- which stages of a word are left: all but those that discharge takes off
pub record StagesLeft (word left : ℕ) (h t a n : Bool) : Type 0 where
  pub H : has_h left ≡ (h && has_h word)
  pub T : has_t left ≡ (t && has_t word)
  pub A : has_a left ≡ (a && has_a word)
  pub N : has_n left ≡ (n && has_n word)

masked : (word left mask : ℕ) → stages_of left ≡ bit_and (stages_of word) mask → StagesLeft word left (bit_at mask 3) (bit_at mask 2) (bit_at mask 1) (bit_at mask 0)
masked word left mask e = record { H = kept 3 (lit< tt); T = kept 2 (lit< tt); A = kept 1 (lit< tt); N = kept 0 (lit< tt) }
  where
    kept : (i : ℕ) → i < 4 → bit_at left (28 + i) ≡ (bit_at mask i && bit_at word (28 + i))
    kept i h = rw (← bit-of-field left 28 4 i h, e, bit-and (stages_of word) mask i, bit-of-field word 28 4 i h) (swap (bit_at word (28 + i)) (bit_at mask i))

module _ (word : ℕ) where
  pub fields-T : Fields (without_t word) (bit_and (stages_of word) 0b1011) 0 (noise_of word) (aggregates_of word) 0 (minimum_of word)
  unfolding without_t
  fields-T = packed-fields _ _ _ _ _ _ (and_below (stages_of word) 0b1011 (field_lt word 28 4)) (lit< tt) (field_lt word 23 1) (field_lt word 16 5) (lit< tt) (field_lt word 0 10)

  pub fields-A : Fields (without_a word) (bit_and (stages_of word) 0b1101) (transforms_of word) (noise_of word) 0 (digits_of word) 0
  unfolding without_a
  fields-A = packed-fields _ _ _ _ _ _ (and_below (stages_of word) 0b1101 (field_lt word 28 4)) (field_lt word 24 4) (field_lt word 23 1) (lit< tt) (field_lt word 10 3) (lit< tt)

  pub fields-N : Fields (without_n word) (bit_and (stages_of word) 0b1110) (transforms_of word) 0 (aggregates_of word) (digits_of word) (minimum_of word)
  unfolding without_n
  fields-N = packed-fields _ _ _ _ _ _ (and_below (stages_of word) 0b1110 (field_lt word 28 4)) (field_lt word 24 4) (lit< tt) (field_lt word 16 5) (field_lt word 10 3) (field_lt word 0 10)

  pub stages-T : StagesLeft word (without_t word) true false true true
  unfolding field_at
  stages-T = masked word (without_t word) 0b1011 fields-T.stages

  pub stages-A : StagesLeft word (without_a word) true true false true
  unfolding field_at
  stages-A = masked word (without_a word) 0b1101 fields-A.stages

  pub stages-N : StagesLeft word (without_n word) true true true false
  unfolding field_at
  stages-N = masked word (without_n word) 0b1110 fields-N.stages

  -- without stage T an aggregate is allowed as before, and without T or A so is noise
  pub same-aggregates : (operation : ℕ) → operation < 5 → allows_aggregate (without_t word) operation ≡ allows_aggregate word operation
  unfolding allows_aggregate
  same-aggregates operation h = rw (← bit-of-field (without_t word) 16 5 operation h, fields-T.aggregates, bit-of-field word 16 5 operation h)

  same-noise : (left : ℕ) → noise_of left ≡ noise_of word → allows_noise left ≡ allows_noise word
  unfolding allows_noise
  same-noise left e = rw (← bit-of-field left 23 1 0 (lit< tt), e, bit-of-field word 23 1 0 (lit< tt))

  pub same-noise-T : allows_noise (without_t word) ≡ allows_noise word
  same-noise-T = same-noise (without_t word) fields-T.noise

  pub same-noise-A : allows_noise (without_a word) ≡ allows_noise word
  same-noise-A = same-noise (without_a word) fields-A.noise

  module _ (wf : well_formed word ≡ true) where
    pub without-T-well-formed : well_formed (without_t word) ≡ true
    unfolding digits_fit field_at
    without-T-well-formed =
        let p = parts word wf in
        whole (without_t word) record {
          small = fields-T.small;
          upper = fields-T.upper;
          lower = fields-T.lower;
          transforms = rw (stages-T.T, fields-T.transforms);
          digits = rw (fields-T.transforms, fields-T.digits);
          aggregates = rw (stages-T.A, fields-T.aggregates) p.aggregates;
          minimum = rw (stages-T.A, fields-T.minimum) p.minimum;
          noise = rw (stages-T.N, fields-T.noise) p.noise;
        }

    pub without-A-well-formed : well_formed (without_a word) ≡ true
    unfolding minimum_fits
    without-A-well-formed =
        let p = parts word wf in
        whole (without_a word) record {
          small = fields-A.small;
          upper = fields-A.upper;
          lower = fields-A.lower;
          transforms = rw (stages-A.T, fields-A.transforms) p.transforms;
          digits = rw (fields-A.transforms, fields-A.digits) p.digits;
          aggregates = rw (stages-A.A, fields-A.aggregates);
          minimum = rw (stages-A.A, fields-A.minimum);
          noise = rw (stages-A.N, fields-A.noise) p.noise;
        }

    pub without-N-well-formed : well_formed (without_n word) ≡ true
    without-N-well-formed =
        let p = parts word wf in
        whole (without_n word) record {
          small = fields-N.small;
          upper = fields-N.upper;
          lower = fields-N.lower;
          transforms = rw (stages-N.T, fields-N.transforms) p.transforms;
          digits = rw (fields-N.transforms, fields-N.digits) p.digits;
          aggregates = rw (stages-N.A, fields-N.aggregates) p.aggregates;
          minimum = rw (stages-N.A, fields-N.minimum) p.minimum;
          noise = rw (stages-N.N, fields-N.noise);
        }

cond-well-formed : (b : Bool) (x y : ℕ) → well_formed x ≡ true → well_formed y ≡ true → well_formed (cond b x y) ≡ true
cond-well-formed true x y p q = p
cond-well-formed false x y p q = q

-- which labels an operation is forbidden on, and what it leaves of the others
module _ (word : ℕ) where
  pub forbids-T : forbids_t word ≡ has_h word
  unfolding forbids_t
  forbids-T = refl

  pub forbids-A : forbids_a word ≡ (has_h word || has_t word)
  unfolding forbids_a
  forbids-A = refl

  pub forbids-N : forbids_n word ≡ (has_h word || has_t word || has_a word)
  unfolding forbids_n
  forbids-N = refl

  pub after-N : after_n word ≡ cond (not (forbids_n word) && has_n word && allows_noise word) (without_n word) word
  unfolding after_n
  after-N = refl

  pub after-N-well-formed : well_formed word ≡ true → well_formed (after_n word) ≡ true
  unfolding after_n
  after-N-well-formed wf = cond-well-formed (not (forbids_n word) && has_n word && allows_noise word) (without_n word) word (without-N-well-formed word wf) wf

  module _ (operation measure : ℕ) where
    pub after-T : after_t word operation measure ≡ cond (not (has_h word) && has_t word && allows_transform word operation measure) (without_t word) word
    unfolding after_t forbids_t
    after-T = refl

    pub after-A : after_a word operation measure ≡ cond (not (has_h word || has_t word) && has_a word && discharges_a word operation measure) (without_a word) word
    unfolding after_a forbids_a
    after-A = refl

    pub after-T-well-formed : well_formed word ≡ true → well_formed (after_t word operation measure) ≡ true
    unfolding after_t
    after-T-well-formed wf = cond-well-formed (not (forbids_t word) && has_t word && allows_transform word operation measure) (without_t word) word (without-T-well-formed word wf) wf

    pub after-A-well-formed : well_formed word ≡ true → well_formed (after_a word operation measure) ≡ true
    unfolding after_a
    after-A-well-formed wf = cond-well-formed (not (forbids_a word) && has_a word && discharges_a word operation measure) (without_a word) word (without-A-well-formed word wf) wf

-- the highest stage, by the four stages
record First (h t a n : Bool) (top : Highest) : Type 0 where
  above-T : h ≡ ltb 3 (rank top)
  above-A : (h || t) ≡ ltb 2 (rank top)
  above-N : (h || t || a) ≡ ltb 1 (rank top)
  is_T : (not h && t) ≡ eqb (rank top) 3
  is-A : (not (h || t) && a) ≡ eqb (rank top) 2
  is-N : (not (h || t || a) && n) ≡ eqb (rank top) 1

first : (h t a n : Bool) → First h t a n (topmost h t a n)
first true t a n = record { above-T = refl; above-A = refl; above-N = refl; is_T = refl; is-A = refl; is-N = refl }
first false true a n = record { above-T = refl; above-A = refl; above-N = refl; is_T = refl; is-A = refl; is-N = refl }
first false false true n = record { above-T = refl; above-A = refl; above-N = refl; is_T = refl; is-A = refl; is-N = refl }
first false false false true = record { above-T = refl; above-A = refl; above-N = refl; is_T = refl; is-A = refl; is-N = refl }
first false false false false = record { above-T = refl; above-A = refl; above-N = refl; is_T = refl; is-A = refl; is-N = refl }

of_word : (word : ℕ) → First (has_h word) (has_t word) (has_a word) (has_n word) (highest word)
unfolding highest
of_word word = first (has_h word) (has_t word) (has_a word) (has_n word)

pub forbidden-above : ForbiddenAbove
unfolding forbids_t forbids_a forbids_n
forbidden-above word = ((of_word word).above-T, (of_word word).above-A, (of_word word).above-N)

pub discharges-highest : DischargesHighest
unfolding forbids_t forbids_a forbids_n after_t after_a after_n
discharges-highest word operation measure = (rw (of_word word).is_T, rw (of_word word).is-A, rw (of_word word).is-N)

pub discharge-well-formed : DischargedWellFormed
discharge-well-formed word operation measure wf = (after-T-well-formed word operation measure wf, after-A-well-formed word operation measure wf, after-N-well-formed word wf)

-- ---- clear labels

pub zero-well-formed : well_formed 0 ≡ true
unfolding well_formed well_formed_from digits_fit minimum_fits field_at
zero-well-formed = refl

pub zero-count : stage_count 0 ≡ 0
unfolding stage_count field_at
zero-count = refl

some-bit : ℕ → Bool
some-bit s = bit_at s 3 || bit_at s 2 || bit_at s 1 || bit_at s 0 || eqb s 0

module _ (word : ℕ) where
  -- a word that counts no stage has none
  pub no-stages : stage_count word ≡ 0 → (has_h word ≡ false) × (has_t word ≡ false) × (has_a word ≡ false) × (has_n word ≡ false)
  unfolding stage_count
  no-stages e = none (has_h word) (has_t word) (has_a word) (has_n word) e
    where
      none : (h t a n : Bool) → one h + one t + one a + one n ≡ 0 → (h ≡ false) × (t ≡ false) × (a ≡ false) × (n ≡ false)
      none true t a n e = absurd (omega arith)
      none false true a n e = absurd (omega arith)
      none false false true n e = absurd (omega arith)
      none false false false true e = absurd (omega arith)
      none false false false false e = (refl, refl, refl, refl)

  stages-zero : stage_count word ≡ 0 → stages_of word ≡ 0
  unfolding some-bit field_at
  stages-zero e =
      let n = no-stages e in
      let t = below 16 some-bit tt (stages_of word) (field_lt word 28 4) in
      eqb→eq (stages_of word) 0
      (rw (bit-of-field word 28 4 3 (lit< tt), bit-of-field word 28 4 2 (lit< tt), bit-of-field word 28 4 1 (lit< tt), bit-of-field word 28 4 0 (lit< tt), n.0, n.1, n.2, n.3) at t)

pub no-stage-clear : NoStageIsClear
unfolding packed
no-stage-clear word wf e =
    let n = no-stages word e in
    let p = parts word wf in
    sym (is-packed word wf)
    ∙ same-packed (stages-zero word e) (no-transforms word p n.1) (no-noise word p n.3) (no-aggregates word p n.2) (no_cut word p n.1) (no-minimum word p n.2)

-- a word with no stage above N
none_above : (h t a : Bool) → (h || t || a) ≡ false → (h ≡ false) × (t ≡ false) × (a ≡ false)
none_above true t a e = absurd (true≢false e)
none_above false true a e = absurd (true≢false e)
none_above false false true e = absurd (true≢false e)
none_above false false false e = (refl, refl, refl)

pub noise-clears : NoiseClears
unfolding stage_count
noise-clears word wf e allowed =
    let l = stages-N word in
    let n = none_above (has_h word) (has_t word) (has_a word) ((of_word word).above-N ∙ rw e) in
    (discharges-highest word 0 0).2 ∙ rw (e, allowed)
    (no-stage-clear (without_n word) (without-N-well-formed word wf) (rw (l.H, l.T, l.A, l.N, n.0, n.1, n.2)))

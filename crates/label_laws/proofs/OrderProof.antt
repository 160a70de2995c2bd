-- The order's laws, and how composition and discharge stand in it. Assumes nothing.
use Prim.Native.Nat.{ℕ, ◌+◌, ◌≤◌, ◌<◌, max}
use mathlib.Core.Path.{◌≡◌, refl, sym, ap, ap₂, ◌∙◌}
use mathlib.Core.Bool.{Bool, true, false, cond, not, ◌&&◌, ◌||◌, true≢false, false≢true, and-eq-true_iff}
use native.Mathlib.Nat.{le_refl, le_trans, le_of_eq}
use native.Mathlib.Omega.{arith}
use lib.Bits.{bit_and}
use lib.Dec.{leb, lit<}
use borrow.Author.Tests.{eqb-true, leb-true, le-leb, not-true}
use Rattle.label_composition.specs.Composition.{merged, digits_with, transforms_both, digits_both, aggregates_both, minimum_both, noise_both, composed}
use Rattle.label_discharge.specs.Discharge.{is_cut, forbids_t, forbids_a, forbids_n, allows_transform, allows_aggregate, enough_sheets, discharges_a, allows_noise, without_t, without_a, without_n, after_t, after_a, after_n}
use Rattle.label_words.specs.Stages.{stage_count}
use Rattle.label_words.specs.Word.{field_at, bit_at, has_h, has_t, has_a, has_n, transforms_of, digits_of, aggregates_of, minimum_of, noise_of}
use Rattle.label_laws.proofs.Laws.{fields, either-H, either-T, either-A, either-N, compose-comm, fields-T, fields-A, fields-N, stages-T, stages-A, stages-N, no-stage-clear}
use Rattle.label_words.proofs.Packed.{bit-of-field, bit-and}
use Rattle.label_laws.specs.Order.{AsStrict, Reflexive, Transitive, ClearBelow, AllowsLess, ComposedAbove, ComposedLeast, DischargeLowers, ClearLeast, ForbidsLess, ComposedMonotone, DischargeMonotone}

-- ---- the order

pub reflexive : Reflexive
reflexive a = record {
  H = λ e. e;
  T = λ e. e;
  A = λ e. e;
  N = λ e. e;
  transforms = λ t operation h e. e;
  digits = λ t e. omega arith;
  aggregates = λ t operation h e. e;
  minimum = λ t. omega arith;
  noise = λ t e. e;
}

pub transitive : Transitive
transitive a b c p q = record {
  H = λ e. search (p.H, q.H);
  T = λ e. search (p.T, q.T);
  A = λ e. search (p.A, q.A);
  N = λ e. search (p.N, q.N);
  transforms = λ t operation h e. p.transforms t operation h (q.transforms (p.T t) operation h e);
  digits = λ t e. omega (arith, p.digits t (q.transforms (p.T t) 2 (lit< tt) e), q.digits (p.T t) e);
  aggregates = λ t operation h e. p.aggregates t operation h (q.aggregates (p.A t) operation h e);
  minimum = λ t. omega (arith, p.minimum t, q.minimum (p.A t));
  noise = λ t e. p.noise t (q.noise (p.N t) e);
}

pub clear-below : ClearBelow
unfolding field_at
clear-below a = record {
  H = λ e. absurd (false≢true e);
  T = λ e. absurd (false≢true e);
  A = λ e. absurd (false≢true e);
  N = λ e. absurd (false≢true e);
  transforms = λ t operation h e. absurd (false≢true t);
  digits = λ t e. absurd (false≢true t);
  aggregates = λ t operation h e. absurd (false≢true t);
  minimum = λ t. absurd (false≢true t);
  noise = λ t e. absurd (false≢true t);
}

both_true : {a b : Bool} → a ≡ true → b ≡ true → (a && b) ≡ true
both_true e f = rw (e, f)

pub allows-less : AllowsLess
unfolding allows_transform allows_aggregate enough_sheets allows_noise
allows-less a b p = (λ t operation digits h e. transform t operation digits h e, λ t operation sheets h e. aggregate t operation sheets h e, p.noise)
  where
    enough : (cut : Bool) (x y k : ℕ) → (cut ≡ true → x ≤ y) → (not cut || leb y k) ≡ true → (not cut || leb x k) ≡ true
    enough true x y k le e = le-leb x k (le_trans (le refl) (leb-true y k e))
    enough false x y k le e = refl

    transform : has_t a ≡ true → (operation digits : ℕ) → operation < 4 → allows_transform b operation digits ≡ true → allows_transform a operation digits ≡ true
    transform t operation digits h e =
        let s = (and-eq-true_iff (bit_at b (24 + operation)) (not (is_cut operation) || leb (digits_of b) digits)).0 e in
        both_true (p.transforms t operation h s.0)
        (enough (is_cut operation) (digits_of a) (digits_of b) digits (λ c. p.digits t (rw (eqb-true operation 2 c) at s.0)) s.1)

    aggregate : has_a a ≡ true → (operation sheets : ℕ) → operation < 5 → discharges_a b operation sheets ≡ true → discharges_a a operation sheets ≡ true
    aggregate t operation sheets h e =
        let s = (and-eq-true_iff (bit_at b (16 + operation)) (leb (minimum_of b) sheets)).0 e in
        both_true (p.aggregates t operation h s.0) (le-leb (minimum_of a) sheets (omega (arith, p.minimum t, leb-true (minimum_of b) sheets s.1)))

-- ---- composition

-- an allowed bit of a stage that the left, the right or both of two labels have
abbrev merged_bit : Bool → Bool → Bool → Bool → Bool
merged_bit true true x y = x && y
merged_bit true false x y = x
merged_bit false true x y = y
merged_bit false false x y = false

merged-bit : (p q : Bool) (x y i : ℕ) → (p || q) ≡ true → bit_at (merged p q (bit_and x y) x y) i ≡ merged_bit p q (bit_at x i) (bit_at y i)
merged-bit true true x y i e = bit-and x y i
merged-bit true false x y i e = refl
merged-bit false true x y i e = refl
merged-bit false false x y i e = absurd (false≢true e)

left-bit : (p q x y : Bool) → p ≡ true → merged_bit p q x y ≡ true → x ≡ true
left-bit true true x y t e = ((and-eq-true_iff x y).0 e).0
left-bit true false x y t e = e
left-bit false q x y t e = absurd (false≢true t)

least-bit : (p q x y : Bool) → (p || q) ≡ true → (p ≡ true → x ≡ true) → (q ≡ true → y ≡ true) → merged_bit p q x y ≡ true
least-bit true true x y t f g = both_true (f refl) (g refl)
least-bit true false x y t f g = f refl
least-bit false true x y t f g = g refl
least-bit false false x y t f g = absurd (false≢true t)

least-max : (p q : Bool) (x y z : ℕ) → (p ≡ true → x ≤ z) → (q ≡ true → y ≤ z) → merged p q (max x y) x y ≤ z
least-max true true x y z f g = omega (arith, f refl, g refl)
least-max true false x y z f g = f refl
least-max false true x y z f g = g refl
least-max false false x y z f g = omega arith

least-digits : (p q : Bool) (s x y z : ℕ) → (p ≡ true → x ≤ z) → (q ≡ true → y ≤ z) → merged p q (digits_with s (max x y)) x y ≤ z
least-digits true true s x y z f g = either (bit_at s 2) (omega (arith, f refl, g refl))
  where
    either : (b : Bool) → max x y ≤ z → cond b (max x y) 0 ≤ z
    either true h = h
    either false h = omega arith
least-digits true false s x y z f g = f refl
least-digits false true s x y z f g = g refl
least-digits false false s x y z f g = omega arith

left-max : (q : Bool) (x y : ℕ) → x ≤ merged true q (max x y) x y
left-max true x y = omega arith
left-max false x y = le_refl x

left-digits : (q : Bool) (s t x y : ℕ) → bit_at (merged true q (bit_and s t) s t) 2 ≡ true → x ≤ merged true q (digits_with (bit_and s t) (max x y)) x y
left-digits true s t x y c = rw c (omega arith)
left-digits false s t x y c = le_refl x

left_or : (p q : Bool) → p ≡ true → (p || q) ≡ true
left_or p q e = rw e

or_elim : (a b c : Bool) → (a || b) ≡ true → (a ≡ true → c ≡ true) → (b ≡ true → c ≡ true) → c ≡ true
or_elim true b c e f g = f refl
or_elim false b c e f g = g e

module _ (a b : ℕ) where
  -- a bit of a composed field
  bit : (p q : Bool) (at width : ℕ)
      → field_at (composed a b) at width ≡ merged p q (bit_and (field_at a at width) (field_at b at width)) (field_at a at width) (field_at b at width)
      → (p || q) ≡ true → (i : ℕ) → i < width → bit_at (composed a b) (at + i) ≡ merged_bit p q (bit_at a (at + i)) (bit_at b (at + i))
  bit p q at width f some i h =
      sym (bit-of-field (composed a b) at width i h) ∙ ap (λ (x : ℕ). bit_at x i) f ∙ merged-bit p q (field_at a at width) (field_at b at width) i some
      ∙ ap₂ (merged_bit p q) (bit-of-field a at width i h) (bit-of-field b at width i h)

  transform-bit : (has_t a || has_t b) ≡ true → (i : ℕ) → i < 4 → bit_at (composed a b) (24 + i) ≡ merged_bit (has_t a) (has_t b) (bit_at a (24 + i)) (bit_at b (24 + i))
  unfolding transforms_both
  transform-bit = bit (has_t a) (has_t b) 24 4 (fields a b).transforms

  aggregate-bit : (has_a a || has_a b) ≡ true → (i : ℕ) → i < 5 → bit_at (composed a b) (16 + i) ≡ merged_bit (has_a a) (has_a b) (bit_at a (16 + i)) (bit_at b (16 + i))
  unfolding aggregates_both
  aggregate-bit = bit (has_a a) (has_a b) 16 5 (fields a b).aggregates

  noise-bit : (has_n a || has_n b) ≡ true → bit_at (composed a b) 23 ≡ merged_bit (has_n a) (has_n b) (bit_at a 23) (bit_at b 23)
  unfolding noise_both
  noise-bit e = bit (has_n a) (has_n b) 23 1 (fields a b).noise e 0 (lit< tt)

  -- at least the left label's digits where cut is allowed, and its minimum
  digits-kept : has_t a ≡ true → bit_at (composed a b) 26 ≡ true → digits_of a ≤ digits_of (composed a b)
  unfolding digits_both transforms_both
  digits-kept t e =
      let cut : bit_at (merged true (has_t b) (bit_and (transforms_of a) (transforms_of b)) (transforms_of a) (transforms_of b)) 2 ≡ true
      = rw (← (rw t at (fields a b).transforms), bit-of-field (composed a b) 24 4 2 (lit< tt)) e in
      rw ((fields a b).digits, t) (left-digits (has_t b) (transforms_of a) (transforms_of b) (digits_of a) (digits_of b) cut)

  minimum-kept : has_a a ≡ true → minimum_of a ≤ minimum_of (composed a b)
  unfolding minimum_both
  minimum-kept t = rw ((fields a b).minimum, t) (left-max (has_a b) (minimum_of a) (minimum_of b))

  above-left : AsStrict a (composed a b)
  above-left = record {
    H = λ e. either-H a b ∙ left_or (has_h a) (has_h b) e;
    T = λ e. either-T a b ∙ left_or (has_t a) (has_t b) e;
    A = λ e. either-A a b ∙ left_or (has_a a) (has_a b) e;
    N = λ e. either-N a b ∙ left_or (has_n a) (has_n b) e;
    transforms = λ t i h e. left-bit (has_t a) (has_t b) _ _ t (sym (transform-bit (left_or _ (has_t b) t) i h) ∙ e);
    digits = digits-kept;
    aggregates = λ t i h e. left-bit (has_a a) (has_a b) _ _ t (sym (aggregate-bit (left_or _ (has_a b) t) i h) ∙ e);
    minimum = minimum-kept;
    noise = λ t e. left-bit (has_n a) (has_n b) _ _ t (sym (noise-bit (left_or _ (has_n b) t)) ∙ e);
  }

pub composed-above : ComposedAbove
composed-above a b = (above-left a b, rw (compose-comm a b) (above-left b a))

pub composed-least : ComposedLeast
unfolding digits_both minimum_both
composed-least a b c p q = record {
  H = λ e. or_elim (has_h a) (has_h b) (has_h c) (sym (either-H a b) ∙ e) p.H q.H;
  T = λ e. or_elim (has_t a) (has_t b) (has_t c) (sym (either-T a b) ∙ e) p.T q.T;
  A = λ e. or_elim (has_a a) (has_a b) (has_a c) (sym (either-A a b) ∙ e) p.A q.A;
  N = λ e. or_elim (has_n a) (has_n b) (has_n c) (sym (either-N a b) ∙ e) p.N q.N;
  transforms = λ t i h e.
      let s = sym (either-T a b) ∙ t in
      transform-bit a b s i h ∙ least-bit (has_t a) (has_t b) _ _ s (λ f. p.transforms f i h e) (λ f. q.transforms f i h e);
  digits = λ t e.
      rw (fields a b).digits
      (least-digits (has_t a) (has_t b) (bit_and (transforms_of a) (transforms_of b)) (digits_of a) (digits_of b) (digits_of c) (λ f. p.digits f e) (λ f. q.digits f e));
  aggregates = λ t i h e.
      let s = sym (either-A a b) ∙ t in
      aggregate-bit a b s i h ∙ least-bit (has_a a) (has_a b) _ _ s (λ f. p.aggregates f i h e) (λ f. q.aggregates f i h e);
  minimum = λ t. rw (fields a b).minimum (least-max (has_a a) (has_a b) (minimum_of a) (minimum_of b) (minimum_of c) p.minimum q.minimum);
  noise = λ t e.
      let s = sym (either-N a b) ∙ t in
      noise-bit a b s ∙ least-bit (has_n a) (has_n b) _ _ s (λ f. p.noise f e) (λ f. q.noise f e);
}

-- ---- discharge

-- words with one field in common have its bits in common
same_bit : (x y at width : ℕ) → field_at x at width ≡ field_at y at width → (i : ℕ) → i < width → bit_at x (at + i) ≡ bit_at y (at + i)
same_bit x y at width e i h = sym (bit-of-field x at width i h) ∙ ap (λ (f : ℕ). bit_at f i) e ∙ bit-of-field y at width i h

module _ (word : ℕ) where
  without-T : AsStrict (without_t word) word
  without-T =
      let l = stages-T word in
      let f = fields-T word in
      let none : has_t (without_t word) ≡ true → ⊥ = λ t. false≢true (sym l.T ∙ t) in
      record {
        H = λ e. sym l.H ∙ e;
        T = λ e. absurd (none e);
        A = λ e. sym l.A ∙ e;
        N = λ e. sym l.N ∙ e;
        transforms = λ t i h e. absurd (none t);
        digits = λ t e. absurd (none t);
        aggregates = λ t i h e. same_bit (without_t word) word 16 5 f.aggregates i h ∙ e;
        minimum = λ t. le_of_eq f.minimum;
        noise = λ t e. same_bit (without_t word) word 23 1 f.noise 0 (lit< tt) ∙ e;
      }

  without-A : AsStrict (without_a word) word
  without-A =
      let l = stages-A word in
      let f = fields-A word in
      let none : has_a (without_a word) ≡ true → ⊥ = λ t. false≢true (sym l.A ∙ t) in
      record {
        H = λ e. sym l.H ∙ e;
        T = λ e. sym l.T ∙ e;
        A = λ e. absurd (none e);
        N = λ e. sym l.N ∙ e;
        transforms = λ t i h e. same_bit (without_a word) word 24 4 f.transforms i h ∙ e;
        digits = λ t e. le_of_eq f.digits;
        aggregates = λ t i h e. absurd (none t);
        minimum = λ t. absurd (none t);
        noise = λ t e. same_bit (without_a word) word 23 1 f.noise 0 (lit< tt) ∙ e;
      }

  without-N : AsStrict (without_n word) word
  without-N =
      let l = stages-N word in
      let f = fields-N word in
      let none : has_n (without_n word) ≡ true → ⊥ = λ t. false≢true (sym l.N ∙ t) in
      record {
        H = λ e. sym l.H ∙ e;
        T = λ e. sym l.T ∙ e;
        A = λ e. sym l.A ∙ e;
        N = λ e. absurd (none e);
        transforms = λ t i h e. same_bit (without_n word) word 24 4 f.transforms i h ∙ e;
        digits = λ t e. le_of_eq f.digits;
        aggregates = λ t i h e. same_bit (without_n word) word 16 5 f.aggregates i h ∙ e;
        minimum = λ t. le_of_eq f.minimum;
        noise = λ t e. absurd (none t);
      }

lowered-or-not : (b : Bool) {left word : ℕ} → AsStrict left word → AsStrict (cond b left word) word
lowered-or-not true p = p
lowered-or-not false {left} {word} p = reflexive word

pub discharge-lowers : DischargeLowers
unfolding after_t after_a after_n
discharge-lowers label operation = (
  λ digits. lowered-or-not (not (forbids_t label) && has_t label && allows_transform label operation digits) (without-T label),
  λ sheets. lowered-or-not (not (forbids_a label) && has_a label && discharges_a label operation sheets) (without-A label),
  lowered-or-not (not (forbids_n label) && has_n label && allows_noise label) (without-N label),
)

-- ---- two labels in the order

-- a stage that the stricter label lacks, the other lacks
absent : (a b : Bool) → (a ≡ true → b ≡ true) → b ≡ false → a ≡ false
absent true b f e = absurd (true≢false (sym (f refl) ∙ e))
absent false b f e = refl

pub clear-least : ClearLeast
unfolding stage_count field_at
clear-least a wf p =
    no-stage-clear a wf
    (rw (absent (has_h a) false p.H refl, absent (has_t a) false p.T refl, absent (has_a a) false p.A refl, absent (has_n a) false p.N refl))

-- neither of two where neither of two others
neither : (a b c d : Bool) → (c ≡ false → a ≡ false) → (d ≡ false → b ≡ false) → (c || d) ≡ false → (a || b) ≡ false
neither a b true d f g e = absurd (true≢false e)
neither a b false d f g e = rw (f refl, g e)

pub forbids-less : ForbidsLess
unfolding forbids_t forbids_a forbids_n
forbids-less a b p =
    let h = absent (has_h a) (has_h b) p.H in
    let t = neither (has_h a) (has_t a) (has_h b) (has_t b) h (absent (has_t a) (has_t b) p.T) in
    (h, t, neither (has_h a || has_t a) (has_a a) (has_h b || has_t b) (has_a b) t (absent (has_a a) (has_a b) p.A))

pub composed-monotone : ComposedMonotone
composed-monotone a b c d p q =
    let above = composed-above c d in
    composed-least a b (composed c d) (transitive a c (composed c d) p above.0) (transitive b d (composed c d) q above.1)

module _ (a b : ℕ) (p : AsStrict a b) where
  -- what agrees with b in each stage of a is at least as strict as a too
  agreeing : (c : ℕ) → has_h c ≡ has_h b
      → (has_t a ≡ true → (has_t c ≡ has_t b) × (transforms_of c ≡ transforms_of b) × (digits_of c ≡ digits_of b))
      → (has_a a ≡ true → (has_a c ≡ has_a b) × (aggregates_of c ≡ aggregates_of b) × (minimum_of c ≡ minimum_of b))
      → (has_n a ≡ true → (has_n c ≡ has_n b) × (noise_of c ≡ noise_of b)) → AsStrict a c
  agreeing c h t g n = record {
    H = λ e. h ∙ p.H e;
    T = λ e. (t e).0 ∙ p.T e;
    A = λ e. (g e).0 ∙ p.A e;
    N = λ e. (n e).0 ∙ p.N e;
    transforms = λ e i l f. p.transforms e i l (sym (same_bit c b 24 4 (t e).1 i l) ∙ f);
    digits = λ e f. rw (t e).2 (p.digits e (sym (same_bit c b 24 4 (t e).1 2 (lit< tt)) ∙ f));
    aggregates = λ e i l f. p.aggregates e i l (sym (same_bit c b 16 5 (g e).1 i l) ∙ f);
    minimum = λ e. rw (g e).2 (p.minimum e);
    noise = λ e f. p.noise e (sym (same_bit c b 23 1 (n e).1 0 (lit< tt)) ∙ f);
  }

  -- so is b without a stage that a lacks
  below-T : has_t a ≡ false → AsStrict a (without_t b)
  below-T none =
      let l = stages-T b in
      let f = fields-T b in
      agreeing (without_t b) l.H (λ e. absurd (true≢false (sym e ∙ none))) (λ _. (l.A, f.aggregates, f.minimum)) (λ _. (l.N, f.noise))

  below-A : has_a a ≡ false → AsStrict a (without_a b)
  below-A none =
      let l = stages-A b in
      let f = fields-A b in
      agreeing (without_a b) l.H (λ _. (l.T, f.transforms, f.digits)) (λ e. absurd (true≢false (sym e ∙ none))) (λ _. (l.N, f.noise))

  below-N : has_n a ≡ false → AsStrict a (without_n b)
  below-N none =
      let l = stages-N b in
      let f = fields-N b in
      agreeing (without_n b) l.H (λ _. (l.T, f.transforms, f.digits)) (λ _. (l.A, f.aggregates, f.minimum))
      (λ e. absurd (true≢false (sym e ∙ none)))

-- One level for all three: its stage, which labels forbid and which allow the operation, and what is left without the stage.
module _ (has forbids allows : ℕ → Bool) (without : ℕ → ℕ) where
  abbrev after : ℕ → ℕ
  after word = cond (not (forbids word) && has word && allows word) (without word) word

  -- a label that does not forbid the operation, and allows it where it has the stage, is left without the stage
  taken-off : (word : ℕ) → has (without word) ≡ false → forbids word ≡ false → (has word ≡ true → allows word ≡ true) → has (after word) ≡ false
  taken-off word off free allowed = go (has word) refl
    where
      go : (h : Bool) → has word ≡ h → has (cond (not (forbids word) && h && allows word) (without word) word) ≡ false
      go true e = rw (free, allowed e) off
      go false e = rw free e

  -- so where the stricter of two labels is discharged, the other is left without the stage
  level-monotone : ((word : ℕ) → AsStrict (without word) word) → ((word : ℕ) → has (without word) ≡ false)
      → ((a b : ℕ) → AsStrict a b → has a ≡ false → AsStrict a (without b))
      → (a b : ℕ) → AsStrict a b → (forbids b ≡ false → forbids a ≡ false) → (has a ≡ true → allows b ≡ true → allows a ≡ true)
      → AsStrict (after a) (after b)
  level-monotone lowers off below a b p free allowed = go (not (forbids b) && has b && allows b) refl
    where
      left : AsStrict (after a) b
      left = transitive (after a) a b (lowered-or-not (not (forbids a) && has a && allows a) (lowers a)) p

      go : (d : Bool) → (not (forbids b) && has b && allows b) ≡ d → AsStrict (after a) (cond d (without b) b)
      go true e =
          let s = (and-eq-true_iff (not (forbids b) && has b) (allows b)).0 e in
          let f = not-true (forbids b) ((and-eq-true_iff (not (forbids b)) (has b)).0 s.0).0 in
          below (after a) b left (taken-off a (off a) (free f) (λ h. allowed h s.1))
      go false e = left

pub discharge-monotone : DischargeMonotone
unfolding after_t after_a after_n
discharge-monotone a b p =
    let free = forbids-less a b p in
    let allowed = allows-less a b p in (
      λ operation digits h.
          level-monotone has_t forbids_t (λ word. allows_transform word operation digits) without_t without-T (λ word. (stages-T word).T) below-T a b p
          free.0 (λ t. allowed.0 t operation digits h),
      λ operation sheets h.
          level-monotone has_a forbids_a (λ word. discharges_a word operation sheets) without_a without-A (λ word. (stages-A word).A) below-A a b p
          free.1 (λ t. allowed.1 t operation sheets h),
      level-monotone has_n forbids_n allows_noise without_n without-N (λ word. (stages-N word).N) below-N a b p free.2 allowed.2,
    )

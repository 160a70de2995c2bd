-- Labels under another smallest minimum, and a label whose minimum is raised from 1 to 2. Assumes nothing.
use Prim.Native.Nat.{ℕ, suc, ◌+◌, ◌*◌, ◌/◌, ◌^◌, ◌<◌}
use mathlib.Core.Path.{◌≡◌, refl, sym, ap, ◌∙◌}
use mathlib.Core.Bool.{Bool, true, false, false≢true, ◌&&◌, ◌||◌, and-eq-true_iff}
use mathlib.Core.Logic.{◌≢◌}
use native.Mathlib.Omega.{arith}
use lib.Dec.{eqb, leb, ltb}
use borrow.Author.Tests.{ltb-true, lt-ltb, leb-true, le-leb, eqb-true, eqb-false, ne_eqb}
use Rattle.conversion.specs.Conversion.{has_one}
use Rattle.label_words.specs.Word.{field_at, has_a, aggregates_of, minimum_of}
use Rattle.label_words.specs.WellFormed.{reserved_zero, minimum_fits, transform_fits, aggregate_fits, noise_fits, well_formed_from}
use Rattle.label_words.proofs.Words.{field-of-upper}
use Rattle.conversion_demands.specs.Converted.{LabelConverted, kept, raised}

-- ---- the minimum

minimum-raised : (present : Bool) → minimum_fits 1 present 1 ≡ true → minimum_fits 2 present 2 ≡ true
unfolding minimum_fits
minimum-raised true e = refl
minimum-raised false e = absurd (false≢true e)

minimum-other : (present : Bool) (minimum : ℕ) → eqb minimum 1 ≡ false → minimum_fits 1 present minimum ≡ true → minimum_fits 2 present minimum ≡ true
unfolding minimum_fits
minimum-other true minimum n e =
    let b = (and-eq-true_iff (leb 1 minimum) (leb minimum 1023)).0 e in
    rw (b.1, le-leb 2 minimum (omega (arith, leb-true 1 minimum b.0, eqb-false minimum 1 n)))
minimum-other false minimum n e = e

minimum-two : (present : Bool) (minimum : ℕ) → minimum_fits 2 present minimum ≡ true → (minimum_fits 1 present minimum ≡ true) × (eqb minimum 1 ≡ false)
unfolding minimum_fits
minimum-two true minimum e =
    let b = (and-eq-true_iff (leb 2 minimum) (leb minimum 1023)).0 e in
    let t = leb-true 2 minimum b.0 in
    (rw (b.1, le-leb 1 minimum (omega arith)), ne_eqb minimum 1 (λ f. omega arith))
minimum-two false minimum e = let z = eqb-true minimum 0 e in (e, ne_eqb minimum 1 (λ f. omega arith))

-- ---- the whole label

-- the tests that a label passes
record Formed (least word : ℕ) : Type 0 where
  small : word < 2 ^ 32
  reserved : reserved_zero word ≡ true
  transform : transform_fits word ≡ true
  aggregates : (has_a word || eqb (aggregates_of word) 0) ≡ true
  minimum : minimum_fits least (has_a word) (minimum_of word) ≡ true
  noise : noise_fits word ≡ true

formed : (least word : ℕ) → well_formed_from least word ≡ true → Formed least word
unfolding well_formed_from
formed least word e =
    let first = ltb word (2 ^ 32) && reserved_zero word in
    let n = (and-eq-true_iff (first && transform_fits word && aggregate_fits least word) (noise_fits word)).0 e in
    let a = (and-eq-true_iff (first && transform_fits word) (aggregate_fits least word)).0 n.0 in
    let t = (and-eq-true_iff first (transform_fits word)).0 a.0 in
    let r = (and-eq-true_iff (ltb word (2 ^ 32)) (reserved_zero word)).0 t.0 in
    let m = (and-eq-true_iff (has_a word || eqb (aggregates_of word) 0) (minimum_fits least (has_a word) (minimum_of word))).0 a.1 in
    record { small = ltb-true word (2 ^ 32) r.0; reserved = r.1; transform = t.1; aggregates = m.0; minimum = m.1; noise = n.1 }

-- a label with the same bits from 10 on, whose minimum is allowed
module _ (word new : ℕ) (upper : new / 2 ^ 10 ≡ word / 2 ^ 10) where
  same : (at width : ℕ) → field_at new (10 + at) width ≡ field_at word (10 + at) width
  same at width = sym (field-of-upper new 10 at width) ∙ ap (λ (w : ℕ). field_at w at width) upper ∙ field-of-upper word 10 at width

  formed-again : new < 2 ^ 32 → (least least' : ℕ) → (minimum_fits least (has_a word) (minimum_of word) ≡ true → minimum_fits least' (has_a word) (minimum_of new) ≡ true)
      → well_formed_from least word ≡ true → well_formed_from least' new ≡ true
  unfolding well_formed_from
  formed-again small least least' f e =
      rw (same 11 2, same 3 3, same 20 1, same 14 4, same 16 1, same 0 3, same 19 1, same 6 5, same 18 1, same 13 1)
      (let w = formed least word e in rw (lt-ltb new (2 ^ 32) small, w.reserved, w.transform, w.aggregates, f w.minimum, w.noise))

-- the minimum is another, and the label stays; or it is a 1, and the label with a 2 there is the next number
pub data Change (old new : ℕ) : Type 0 where
  stays : has_one old ≡ false → new ≡ old → Change old new
  rises : has_one old ≡ true → new ≡ suc old → Change old new

module _ (word : ℕ) (one : minimum_of word ≡ 1) where
  next-minimum : minimum_of (suc word) ≡ 2
  unfolding field_at
  next-minimum = omega arith

  next-upper : suc word / 2 ^ 10 ≡ word / 2 ^ 10
  unfolding field_at
  next-upper = omega arith

  next_small : word < 2 ^ 32 → suc word < 2 ^ 32
  unfolding field_at
  next_small h = omega arith

pub change-formed : {old new : ℕ} → Change old new → well_formed_from 1 old ≡ true → well_formed_from 2 new ≡ true
change-formed {old} (stays o e) f = rw e (formed-again old old refl (formed 1 old f).small 1 2 (minimum-other (has_a old) (minimum_of old) o) f)
change-formed {old} (rises o e) f =
    let one = eqb-true (minimum_of old) 1 o in
    rw e (formed-again old (suc old) (next-upper old one) (next_small old one (formed 1 old f).small) 1 2 (rw (one, next-minimum old one) (minimum-raised (has_a old))) f)

pub change-is : {old new : ℕ} → Change old new → LabelConverted old new
change-is {old} (stays o e) = kept (eqb-false (minimum_of old) 1 o) e
change-is {old} (rises o e) =
    let one = eqb-true (minimum_of old) 1 o in
    raised one (rw e (next-minimum old one)) (rw e (same old (suc old) (next-upper old one) 0 22))

pub formed-before : (word : ℕ) → well_formed_from 2 word ≡ true → (well_formed_from 1 word ≡ true) × (has_one word ≡ false)
formed-before word f =
    let w = formed 2 word f in
    let two = minimum-two (has_a word) (minimum_of word) in
    (formed-again word word refl w.small 2 1 (λ m. (two m).0) f, (two w.minimum).1)

-- the first byte of a label with a minimum of 1
pub first_byte : (byte rest : ℕ) → has_one (byte + 256 * rest) ≡ true → (byte < 256 → byte ≡ 1) × (byte ≢ 2)
unfolding field_at
first_byte byte rest o = let one = eqb-true (minimum_of (byte + 256 * rest)) 1 o in omega arith

-- What `convert` leaves is the conversion, answer by answer. Assumes nothing.
use Prim.Native.Nat.{ℕ, zero, suc, ◌+◌, ◌-◌, ◌*◌, ◌≤◌, ◌<◌}
use mathlib.Core.Path.{◌≡◌, refl, sym, ap, ◌∙◌}
use mathlib.Core.List.{List, [], ◌++◌}
use native.Mathlib.Nat.{zero-add, add-suc, suc-add}
use native.Mathlib.Omega.{arith}
use lib.ListN.{length, drop, length-append}
use lib.Seq.{sets-eq}
use borrow.Author.Tests.{le-leb, lt-leb}
use Rattle.container.specs.Check.{accepted, check_input_from}
use Rattle.input.specs.Answers.{input_tells, input_refusal_says}
use Rattle.input.specs.Verdict.{InputVerdict, rejected}
use Rattle.input.specs.declared.InputRefusal.{InputRefusal}
use Rattle.conversion.specs.Conversion.{check_before, ones_from, changed_labels, converted}
use Rattle.conversion.specs.Converting.{ConversionVerdict, changed, refused, ended, by_check, conversion}
use Rattle.conversion.specs.promises.Raising.{Raised}
use Rattle.layout.specs.Layout.{part_count, offset_of, part_of}
use Rattle.plan.specs.Table.{Each}
use Rattle.plan.proofs.SenseEach.{each_append}
use Rattle.input.proofs.Numbers.{input-tells}
use Rattle.table_part.specs.TablePart.{cell_count}
use Rattle.conversion.proofs.Laid.{before, table-laid, laid}
use Rattle.conversion.proofs.Ones.{ones_of, ones-few, ones_below, raised-length, raised-front}

-- ---- the offsets of an accepted container lie in it, and there is room for them

module _ (bytes : List ℕ) (e : check_input_from 1 bytes ≡ accepted) where
  abbrev Inside : List ℕ → Type 0
  Inside = Each (λ one. one < length bytes)

  few : (part : ℕ) → length (ones_of bytes part) ≤ cell_count (part_of bytes part)
  few part = ones-few (part_of bytes part) (offset_of bytes part) 0 (cell_count (part_of bytes part))

  here : (part : ℕ) → 1 ≤ part → part < part_count bytes → (later : List ℕ) → Inside later → Inside (ones_of bytes part ++ later)
  here part h k later i =
      let t = table-laid 1 bytes e part h k in
      each_append (λ one. one < length bytes) (ones_of bytes part) later
      (ones_below (part_of bytes part) (offset_of bytes part) 0 (cell_count (part_of bytes part)) (length bytes) (omega (arith, t.whole, t.inside))) i

  -- of the tables from one part on to the last
  from-inside : (part more : ℕ) → 1 ≤ part → part + suc more ≡ part_count bytes
      → Inside (ones_from bytes part (suc more)) × (12 * length (ones_from bytes part (suc more)) + offset_of bytes part ≤ length bytes)
  from-inside part zero h k =
      let t = table-laid 1 bytes e part h (omega arith) in
      (here part h (omega arith) [] tt, omega (arith, few part, length-append (ones_of bytes part) [], t.whole, t.inside))
  from-inside part (suc more) h k =
      let t = table-laid 1 bytes e part h (omega arith) in
      let rest = from-inside (suc part) more (omega arith) (suc-add part (suc more) ∙ sym (add-suc part (suc more)) ∙ k) in (
        here part h (omega arith) _ rest.0,
        omega (arith, few part, length-append (ones_of bytes part) (ones_from bytes (suc part) (suc more)), rest.1, t.whole, t.after (omega arith)),
      )

  pub ones-inside : Inside (changed_labels bytes) × (length (changed_labels bytes) ≤ 8192)
  unfolding changed_labels
  ones-inside =
      let s = (laid 1 bytes e).size in
      let n : part_count bytes - 1 ≡ suc (part_count bytes - 2) = omega (arith, s.least) in
      let r = from-inside 1 (part_count bytes - 2) (omega arith) (omega (arith, s.least)) in
      rw n (r.0, omega (arith, r.1, s.short))

-- ---- the answers

module _ (bytes new offsets : List ℕ) where
  pub short-new : length new < length bytes → ended (refused 1 0) new offsets ≡ conversion bytes new offsets
  unfolding conversion
  short-new h = rw (lt-leb (length bytes) (length new) h)

  module _ (h : length bytes ≤ length new) where
    pub short-offsets : length offsets < 8192 → ended (refused 1 0) new offsets ≡ conversion bytes new offsets
    unfolding conversion
    short-offsets k = rw (le-leb (length bytes) (length new) h, lt-leb 8192 (length offsets) k)

    module _ (k : 8192 ≤ length offsets) where
      enough : by_check (check_before bytes) bytes new offsets ≡ conversion bytes new offsets
      unfolding conversion
      enough = rw (le-leb (length bytes) (length new) h, le-leb 8192 (length offsets) k)

      pub refuses : (refusal : InputRefusal) → input_refusal_says refusal ≡ check_before bytes → ended (input_tells refused refusal) new offsets ≡ conversion bytes new offsets
      refuses refusal e =
          let n = input-tells refusal in
          ap (λ (told : ConversionVerdict). ended told new offsets) (n.tells refused) ∙ ap (λ (v : InputVerdict). by_check v bytes new offsets) (sym (n.tells rejected) ∙ e) ∙ enough

      pub converts : check_before bytes ≡ accepted → {found : ℕ} {raised told : List ℕ}
          → Raised (changed_labels bytes) 0 (bytes ++ drop (length bytes) new) offsets found raised told → ended (changed found) raised told ≡ conversion bytes new offsets
      unfolding converted
      converts e r =
          let i = ones-inside bytes (before bytes e).1 in
          let front = r.in-new ∙ raised-front bytes (drop (length bytes) new) (changed_labels bytes) i.0 in
          let told = r.in-offsets ∙ sets-eq (changed_labels bytes) offsets 0 (omega (arith, i.1)) in
          rw (front, told, r.counted, zero-add (length (changed_labels bytes)), raised-length bytes (changed_labels bytes)) refl
          ∙ ap (λ (v : InputVerdict). by_check v bytes new offsets) (sym e) ∙ enough

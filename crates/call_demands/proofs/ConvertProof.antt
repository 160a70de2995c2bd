-- The demands hold of a call of `cilunovay_convert`. Assumes nothing.
use Prim.Native.Nat.{ℕ, ◌≤◌, ◌<◌}
use mathlib.Core.Path.{◌≡◌, refl, sym, subst}
use mathlib.Core.Bool.{Bool, true, false, not, and-false}
use mathlib.Core.List.{List}
use mathlib.Core.Logic.{inl, inr, ⊎_elim, ◌≢◌}
use native.Mathlib.Omega.{arith}
use lib.Dec.{eqb, leb}
use lib.ListN.{length}
use borrow.Author.Tests.{leb-true, leb-false, le-leb, lt-leb}
use Rattle.container.specs.Check.{check_input_from}
use Rattle.conversion.specs.Conversion.{check_before}
use Rattle.conversion.specs.Converting.{refused, Conversion, ended, by_check, conversion}
use Rattle.input.specs.Verdict.{InputVerdict, accepted, rejected, and_then, reject_if}
use Rattle.layout.specs.Layout.{rule_year}
use Rattle.call_demands.specs.CallMemory.{RestKept}
use Rattle.call_demands.specs.Calls.{ConvertCall, convert_called, convert_told, convert_call}
use Rattle.call_demands.specs.ConvertDemands as demands
use Rattle.call_demands.proofs.CheckProof.{two-kept, none_kept}
use Rattle.demands.proofs.InputNumbers.{input-numbers}

module _ (bytes new offsets answer : List ℕ) where
  pub long-convert : 2 ≤ length answer → convert_call bytes new offsets answer ≡ convert_told (conversion bytes new offsets) answer
  unfolding convert_call
  long-convert h = rw (le-leb 2 (length answer) h)

  answer-short : length answer < 2 → convert_call bytes new offsets answer ≡ convert_called 1 new offsets answer
  unfolding convert_call
  answer-short h = rw (lt-leb 2 (length answer) h)

  room : demands.Room bytes new offsets → conversion bytes new offsets ≡ by_check (check_before bytes) bytes new offsets
  unfolding conversion
  room r = rw (le-leb (length bytes) (length new) r.0, le-leb 8192 (length offsets) r.1)

  too_short : demands.Short bytes new offsets → conversion bytes new offsets ≡ ended (refused 1 0) new offsets
  unfolding conversion
  too_short s = ⊎_elim (λ h. rw (lt-leb (length bytes) (length new) h)) (λ h. rw (lt-leb 8192 (length offsets) h, and-false (leb (length bytes) (length new)))) s

  -- what holds in each case holds of a conversion
  module _ (P : Conversion → Type 0) where
    by-conversion : (demands.Short bytes new offsets → P (ended (refused 1 0) new offsets))
        → (demands.Room bytes new offsets → (verdict : InputVerdict) → check_before bytes ≡ verdict → P (by_check verdict bytes new offsets))
        → P (conversion bytes new offsets)
    unfolding conversion
    by-conversion few enough = by_lengths (leb (length bytes) (length new)) (leb 8192 (length offsets)) refl refl
      where
        by_lengths : (n o : Bool) → leb (length bytes) (length new) ≡ n → leb 8192 (length offsets) ≡ o → P (conversion bytes new offsets)
        by_lengths true true e f = rw (e, f) (enough (leb-true _ _ e, leb-true _ _ f) (check_before bytes) refl)
        by_lengths true false e f = rw (e, f) (few (inr (leb-false _ _ f)))
        by_lengths false o e f = rw e (few (inl (leb-false _ _ e)))

  -- and of a call
  module _ (P : ConvertCall → Type 0) where
    by_call : (length answer < 2 → P (convert_called 1 new offsets answer))
        → (2 ≤ length answer → P (convert_told (conversion bytes new offsets) answer)) → P (convert_call bytes new offsets answer)
    by_call few long = by_length (leb 2 (length answer)) refl
      where
        by_length : (b : Bool) → leb 2 (length answer) ≡ b → P (convert_call bytes new offsets answer)
        by_length true e = let h = leb-true 2 (length answer) e in subst P (sym (long-convert h)) (long h)
        by_length false e = let h = leb-false 2 (length answer) e in subst P (sym (answer-short h)) (few h)

-- ---- demand 1

pub convert-short-keeps-all : demands.ConvertShortKeepsAll
convert-short-keeps-all = answer-short

pub convert-refusal-keeps : demands.ConvertRefusalKeeps
convert-refusal-keeps bytes new offsets answer =
    by_call bytes new offsets answer (λ call. call.number ≢ 0 → (call.converted ≡ new) × (call.offsets ≡ offsets)) (λ few n. (refl, refl))
    (λ h. by-conversion bytes new offsets answer (λ made. (convert_told made answer).number ≢ 0 → (made.new ≡ new) × (made.offsets ≡ offsets)) (λ s n. (refl, refl)) checked)
  where
    checked : demands.Room bytes new offsets → (verdict : InputVerdict) → check_before bytes ≡ verdict → let made = by_check verdict bytes new offsets in
        (convert_told made answer).number ≢ 0 → (made.new ≡ new) × (made.offsets ≡ offsets)
    checked r accepted e n = absurd (n refl)
    checked r (rejected number place) e n = (refl, refl)

pub convert-keeps-rest : demands.ConvertKeepsRest
convert-keeps-rest bytes new offsets answer =
    by_call bytes new offsets answer (λ call. RestKept 2 answer call.number call.answer) none_kept
    (λ h. by-conversion bytes new offsets answer (λ made. let call = convert_told made answer in RestKept 2 answer call.number call.answer) (λ s. two-kept h) (checked h))
  where
    checked : 2 ≤ length answer → demands.Room bytes new offsets → (verdict : InputVerdict) → check_before bytes ≡ verdict
        → let call = convert_told (by_check verdict bytes new offsets) answer in RestKept 2 answer call.number call.answer
    checked h r accepted e = two-kept h
    checked h r (rejected number place) e = two-kept h

-- ---- demand 2

-- the old check refuses with 11 to 20, as the new one does
before-numbers : (bytes : List ℕ) (number place : ℕ) → check_before bytes ≡ rejected number place → (11 ≤ number) × (number ≤ 20)
unfolding check_before
before-numbers bytes number place e = go (not (eqb (rule_year bytes) 0)) e
  where
    go : (late : Bool) → and_then (reject_if late 11 0) (check_input_from 1 bytes) ≡ rejected number place → (11 ≤ number) × (number ≤ 20)
    go true f = let n : 11 ≡ number = cc in (omega arith, omega arith)
    go false f = input-numbers 1 bytes number place f

pub convert-means : demands.ConvertMeans
convert-means bytes new offsets answer =
    by_call bytes new offsets answer (demands.Converts bytes new offsets answer) (λ few. demands.answer-short few refl)
    (λ h. by-conversion bytes new offsets answer (λ made. demands.Converts bytes new offsets answer (convert_told made answer)) (λ s. demands.short h s refl) (checked h))
  where
    checked : 2 ≤ length answer → demands.Room bytes new offsets → (verdict : InputVerdict) → check_before bytes ≡ verdict
        → demands.Converts bytes new offsets answer (convert_told (by_check verdict bytes new offsets) answer)
    checked h r accepted e = demands.converts h r e refl
    checked h r (rejected number place) e = let n = before-numbers bytes number place e in demands.refuses h e n.0 n.1 refl

pub convert-too-short : demands.ConvertTooShort
convert-too-short bytes new offsets answer h s = rw (long-convert bytes new offsets answer h, too_short bytes new offsets answer s)

pub convert-converts : demands.ConvertConverts
convert-converts bytes new offsets answer h r e = rw (long-convert bytes new offsets answer h, room bytes new offsets answer r, e)

pub convert-refuses : demands.ConvertRefuses
convert-refuses bytes new offsets answer h r number place e = rw (long-convert bytes new offsets answer h, room bytes new offsets answer r, e)

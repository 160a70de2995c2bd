-- The demands hold of a call of `cilunovay_check`. Assumes nothing.
use Prim.Native.Nat.{ℕ, ◌≤◌, ◌<◌}
use mathlib.Core.Path.{◌≡◌, refl, sym, subst}
use mathlib.Core.Bool.{Bool, true, false}
use mathlib.Core.List.{List, [], ◌∷◌}
use native.Mathlib.Omega.{arith}
use lib.Dec.{leb}
use lib.ListN.{length, drop}
use borrow.Author.Tests.{leb-true, leb-false, le-leb, lt-leb}
use Rattle.container.specs.Check.{check_input}
use Rattle.input.specs.Verdict.{InputVerdict, accepted, rejected}
use Rattle.call_demands.specs.CallMemory.{RestKept}
use Rattle.call_demands.specs.Calls.{CheckCall, check_called, check_numbers_of, check_told, check_call}
use Rattle.call_demands.specs.CheckDemands as demands
use Rattle.demands.proofs.InputNumbers.{input-numbers}
use Rattle.demands.proofs.Slices.{over-length}

-- ---- a call, case by case

pub check-short-keeps-all : demands.CheckShortKeepsAll
unfolding check_call
check-short-keeps-all bytes answer h = rw (lt-leb 2 (length answer) h)

pub long-check : (bytes answer : List ℕ) → 2 ≤ length answer → check_call bytes answer ≡ check_told (check_numbers_of (check_input bytes)) answer
unfolding check_call
long-check bytes answer h = rw (le-leb 2 (length answer) h)

-- what holds in each case holds of the call
module _ (bytes answer : List ℕ) (P : CheckCall → Type 0) where
  by-check : (length answer < 2 → P (check_called 1 answer))
      → (2 ≤ length answer → (verdict : InputVerdict) → check_input bytes ≡ verdict → P (check_told (check_numbers_of verdict) answer)) → P (check_call bytes answer)
  by-check few long = by_length (leb 2 (length answer)) refl
    where
      by_length : (b : Bool) → leb 2 (length answer) ≡ b → P (check_call bytes answer)
      by_length true e =
          let h = leb-true 2 (length answer) e in
          subst P (sym (long-check bytes answer h)) (long h (check_input bytes) refl)
      by_length false e =
          let h = leb-false 2 (length answer) e in
          subst P (sym (check-short-keeps-all bytes answer h)) (few h)

-- ---- demand 1

pub two-kept : {a b : ℕ} {answer : List ℕ} → 2 ≤ length answer → RestKept 2 answer a (a ∷ b ∷ drop 2 answer)
two-kept {a} {b} {answer} h = record { first = λ _ x. refl; past = refl; same_length = over-length (a ∷ b ∷ []) answer h }

pub none_kept : {answer : List ℕ} → length answer < 2 → RestKept 2 answer 1 answer
none_kept few = record { first = λ long. absurd (omega arith); past = refl; same_length = refl }

pub check-keeps-rest : demands.CheckKeepsRest
check-keeps-rest bytes answer =
    by-check bytes answer (λ call. RestKept 2 answer call.number call.answer)
    none_kept told
  where
    told : 2 ≤ length answer → (verdict : InputVerdict) → check_input bytes ≡ verdict
        → let call = check_told (check_numbers_of verdict) answer in RestKept 2 answer call.number call.answer
    told h accepted e = two-kept h
    told h (rejected number place) e = two-kept h

-- ---- demand 2

pub check-accepts : demands.CheckAccepts
check-accepts bytes answer h e = rw (long-check bytes answer h, e)

pub check-refuses : demands.CheckRefuses
check-refuses bytes answer h number place e = rw (long-check bytes answer h, e)

pub check-means : demands.CheckMeans
unfolding check_input
check-means bytes answer = by-check bytes answer (demands.Checked bytes answer) (λ few. demands.short few refl) told
  where
    told : 2 ≤ length answer → (verdict : InputVerdict) → check_input bytes ≡ verdict → demands.Checked bytes answer (check_told (check_numbers_of verdict) answer)
    told h accepted e = demands.accepts h refl e
    told h (rejected number place) e = let n = input-numbers _ bytes number place e in demands.refuses h refl e n.0 n.1

-- The demands hold of a call of `cilunovay_run`. Assumes nothing.
use Prim.Native.Nat.{ℕ, ◌≤◌, ◌<◌}
use mathlib.Core.Path.{◌≡◌, refl, sym, ap, subst}
use mathlib.Core.Bool.{Bool, true, false}
use mathlib.Core.List.{List, [], ◌∷◌}
use native.Mathlib.Omega.{arith}
use lib.Dec.{leb}
use lib.ListN.{length, drop}
use borrow.Author.Tests.{leb-true, leb-false, le-leb, lt-leb}
use Rattle.demands.specs.Accuracy.{Refused, short, evaluated, no_room}
use Rattle.demands.specs.Answers.{Told, released, refused_input, refused_state}
use Rattle.call_demands.specs.CallAccuracy as accuracy
use Rattle.call_demands.specs.CallMemory.{CallShortKeepsAll, Leaves, CallLeaves, RestKept, CallKeepsRest}
use Rattle.call_demands.specs.Calls.{RunCall, run_called, run_told, run_call}
use Rattle.demands.specs.Given.{Given, year_given}
use Rattle.demands.specs.Lent.{Lent}
use Rattle.demands.specs.Monitor.{Begun, Run, ended, monitor}
use Rattle.call_demands.specs.CallAccuracy.{SecrecyOfCalls}
use Rattle.demands.proofs.AccuracyProof.{released-is-released, refused-is-refused, no-room-is-refused, trace-is-trace, input-is-checked, release-means, refusal-means, input-refusal-means}
use Rattle.demands.proofs.LengthsProof.{lengths-kept}
use Rattle.demands.proofs.MemoryProof.{input-refusal-keeps-all, begun-leaves-zero}
use Rattle.demands.proofs.Runs.{short-keeps-all}
use Rattle.demands.proofs.SecrecyProof.{secrecy-of-runs}
use Rattle.demands.proofs.Slices.{over-length}

-- ---- demand 3

pub secrecy-of-calls : SecrecyOfCalls
unfolding run_call
secrecy-of-calls year a b in-a in_b alike lent long answer = rw (secrecy-of-runs year a b in-a in_b alike lent long)

-- ---- a call, case by case

pub long-call : (given : Given) (lent : Lent) (answer : List ℕ) → 4 ≤ length answer → run_call given lent answer ≡ run_told (monitor given lent) answer
unfolding run_call
long-call given lent answer h = rw (le-leb 4 (length answer) h)

pub call-short-keeps-all : CallShortKeepsAll
unfolding run_call
call-short-keeps-all given lent answer h = rw (lt-leb 4 (length answer) h)

-- what holds in each case holds of the call
module _ (given : Given) (lent : Lent) (answer : List ℕ) (P : RunCall → Type 0) where
  by_call : (length answer < 4 → P (run_called 1 lent answer))
      → (4 ≤ length answer → (told : Told) → (monitor given lent).answer ≡ told → P (run_told (ended told (monitor given lent).left) answer))
      → P (run_call given lent answer)
  by_call few long = by_length (leb 4 (length answer)) refl
    where
      by_length : (b : Bool) → leb 4 (length answer) ≡ b → P (run_call given lent answer)
      by_length true e =
          let h = leb-true 4 (length answer) e in
          subst P (sym (long-call given lent answer h)) (long h (monitor given lent).answer refl)
      by_length false e =
          let h = leb-false 4 (length answer) e in
          subst P (sym (call-short-keeps-all given lent answer h)) (few h)

-- ---- demand 1, the slice for the answer

four-kept : {a b c d : ℕ} {answer : List ℕ} → 4 ≤ length answer → RestKept 4 answer a (a ∷ b ∷ c ∷ d ∷ drop 4 answer)
four-kept {a} {b} {c} {d} {answer} h = record { first = λ _ x. refl; past = refl; same_length = over-length (a ∷ b ∷ c ∷ d ∷ []) answer h }

pub call-keeps-rest : CallKeepsRest
call-keeps-rest given lent answer =
    by_call given lent answer (λ call. RestKept 4 answer call.number call.answer)
    (λ few. record { first = λ long. absurd (omega arith); past = refl; same_length = refl }) told
  where
    told : 4 ≤ length answer → (told : Told) → (monitor given lent).answer ≡ told
        → let call = run_told (ended told (monitor given lent).left) answer in RestKept 4 answer call.number call.answer
    told h (released rows columns bytes) e = four-kept h
    told h (refused_input number place) e = four-kept h
    told h (refused_state number step row column) e = four-kept h

-- ---- demand 2, from the evaluation to the call

pub call-releases : accuracy.CallReleases
call-releases year given lent answer h b table e room =
    let r = released-is-released year given lent b table e room in
    rw (long-call given lent answer h, r.0) ((refl, refl), r.1, r.2)

pub call-refuses : accuracy.CallRefuses
call-refuses year given lent answer h = (
  λ b number step row column e. rw (long-call given lent answer h, (refused-is-refused year given lent b number step row column e).0) (refl, refl),
  λ b table e few. rw (long-call given lent answer h, (no-room-is-refused year given lent b table e few).0) (refl, refl),
  λ e. rw (long-call given lent answer h, short-keeps-all given lent e) (refl, refl),
)

pub call-refuses-input : accuracy.CallRefusesInput
call-refuses-input given lent answer h long number place e =
    rw (long-call given lent answer h, input-is-checked given lent long number place e) (refl, refl)

pub call-traces : accuracy.CallTraces
call-traces year given lent answer h b = rw (long-call given lent answer h) (trace-is-trace year given lent b)

-- ---- demand 1, the slices of the run

-- 1 and 11 to 22
kept_leaves : {lent : Lent} (call : RunCall) → 1 ≤ call.number → call.number ≤ 22 → call.left ≡ lent → Leaves lent call
kept_leaves {lent} call from to e = record {
  all-kept = λ _ _. e;
  output-kept = λ _. (ap (λ (l : Lent). l.output) e, ap (λ (l : Lent). l.text) e);
  zeroed-by-release = λ n. absurd (omega arith);
  zeroed-by-refusal = λ n. absurd (omega arith);
  lengths = rw e (record { values = refl; labels = refl; marks = refl; output = refl; trace = refl; text = refl });
}

pub call-leaves : CallLeaves
call-leaves given lent answer = by_call given lent answer (Leaves lent) (λ _. kept_leaves (run_called 1 lent answer) (omega arith) (omega arith) refl) told
  where
    -- 31 to 37, and 51
    begun-refusal : {number step row column : ℕ} → Begun (year_given given) given lent → 31 ≤ number
        → ((monitor given lent).left.output ≡ lent.output) × ((monitor given lent).left.text ≡ lent.text)
        → Leaves lent (run_told (ended (refused_state number step row column) (monitor given lent).left) answer)
    begun-refusal b from kept = record {
      all-kept = λ _ most. absurd (omega arith);
      output-kept = λ _. kept;
      zeroed-by-release = λ n. absurd (omega arith);
      zeroed-by-refusal = λ _. begun-leaves-zero (year_given given) given lent b;
      lengths = lengths-kept given lent;
    }

    refusal : {number step row column : ℕ} → Refused (year_given given) given lent number step row column
        → Leaves lent (run_told (ended (refused_state number step row column) (monitor given lent).left) answer)
    refusal (short s) = kept_leaves _ (omega arith) (omega arith) (ap (λ (run : Run). run.left) (short-keeps-all given lent s))
    refusal (evaluated {number} {step} {row} {column} b o from to) =
        let k = refused-is-refused (year_given given) given lent b number step row column o in
        begun-refusal b from (k.1, k.2)
    refusal (no_room {table} b o few) = let k = no-room-is-refused (year_given given) given lent b table o few in begun-refusal b (omega arith) (k.1, k.2)

    told : 4 ≤ length answer → (told : Told) → (monitor given lent).answer ≡ told → Leaves lent (run_told (ended told (monitor given lent).left) answer)
    told h (released rows columns bytes) e = record {
      all-kept = λ least _. absurd (omega arith);
      output-kept = λ n. absurd (n refl);
      zeroed-by-release = λ _. begun-leaves-zero (year_given given) given lent (release-means (year_given given) given lent rows columns bytes refl e).begun;
      zeroed-by-refusal = λ least. absurd (omega arith);
      lengths = lengths-kept given lent;
    }
    told h (refused_input number place) e =
        let i = input-refusal-means given lent number place e in
        kept_leaves _ (omega arith) i.to-22 (input-refusal-keeps-all given lent number place e)
    told h (refused_state number step row column) e = refusal (refusal-means (year_given given) given lent number step row column refl e)

-- ---- demand 2, from the numbers told to the evaluation

pub call-means : accuracy.CallMeans
call-means year given lent answer y = by_call given lent answer (accuracy.Called year given lent answer) (λ few. accuracy.answer-short few refl) told
  where
    told : 4 ≤ length answer → (told : Told) → (monitor given lent).answer ≡ told
        → accuracy.Called year given lent answer (run_told (ended told (monitor given lent).left) answer)
    told h (released rows columns bytes) e = accuracy.releases h (refl, refl) (release-means year given lent rows columns bytes y e)
    told h (refused_input number place) e = accuracy.refuses-input h (refl, refl) (input-refusal-means given lent number place e)
    told h (refused_state number step row column) e = accuracy.refuses h (refl, refl) (refusal-means year given lent number step row column y e)

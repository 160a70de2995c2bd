-- The demands of a call of `cilunovay_convert`. It is lent a slice for the new container, one for the offsets, and one for the answer, of at least
-- 2 elements.
use Rattle.std.specs.Prelude.{ℕ, ◌≤◌, ◌<◌, ◌≡◌, List, ◌∷◌, ◌++◌, ◌⊎◌, ◌≢◌, length, drop}
use Rattle.conversion.specs.Conversion.{check_before, changed_labels, converted}
use Rattle.input.specs.Verdict.{accepted, rejected}
use Rattle.call_demands.specs.CallMemory.{RestKept}
use Rattle.call_demands.specs.Calls.{ConvertCall, convert_called, convert_call}

-- ---- demand 1, lent memory

-- a slice for the answer that is too short gives 1, and nothing lent changes
abbrev pub ConvertShortKeepsAll : Type 0
ConvertShortKeepsAll = (bytes new offsets answer : List ℕ) → length answer < 2 → convert_call bytes new offsets answer ≡ convert_called 1 new offsets answer

-- no refusal changes the slice for the new container or that for the offsets
abbrev pub ConvertRefusalKeeps : Type 0
ConvertRefusalKeeps = (bytes new offsets answer : List ℕ) → (convert_call bytes new offsets answer).number ≢ 0
    → ((convert_call bytes new offsets answer).converted ≡ new) × ((convert_call bytes new offsets answer).offsets ≡ offsets)

-- the slice for the answer begins with the number returned, and what lies past its first 2 elements is as it was
abbrev pub ConvertKeepsRest : Type 0
ConvertKeepsRest = (bytes new offsets answer : List ℕ)
    → RestKept 2 answer (convert_call bytes new offsets answer).number (convert_call bytes new offsets answer).answer

-- ---- demand 2, accuracy

-- "a lent slice is too short": the new container's is shorter than the container, or that of the offsets than 8,192
abbrev pub Short : List ℕ → List ℕ → List ℕ → Type 0
Short bytes new offsets = (length new < length bytes) ⊎ (length offsets < 8192)

abbrev pub ConvertTooShort : Type 0
ConvertTooShort = (bytes new offsets answer : List ℕ) → 2 ≤ length answer → Short bytes new offsets
    → convert_call bytes new offsets answer ≡ convert_called 1 new offsets (1 ∷ 0 ∷ drop 2 answer)

-- both slices have room
abbrev pub Room : List ℕ → List ℕ → List ℕ → Type 0
Room bytes new offsets = (length bytes ≤ length new) × (8192 ≤ length offsets)

-- the call that has converted
abbrev pub converted_call : List ℕ → List ℕ → List ℕ → List ℕ → ConvertCall
converted_call bytes new offsets answer =
    convert_called 0 (converted bytes ++ drop (length (converted bytes)) new) (changed_labels bytes ++ drop (length (changed_labels bytes)) offsets)
    (0 ∷ length (changed_labels bytes) ∷ drop 2 answer)

abbrev pub ConvertConverts : Type 0
ConvertConverts = (bytes new offsets answer : List ℕ) → 2 ≤ length answer → Room bytes new offsets → check_before bytes ≡ accepted
    → convert_call bytes new offsets answer ≡ converted_call bytes new offsets answer

abbrev pub ConvertRefuses : Type 0
ConvertRefuses = (bytes new offsets answer : List ℕ) → 2 ≤ length answer → Room bytes new offsets → (number place : ℕ)
    → check_before bytes ≡ rejected number place → convert_call bytes new offsets answer ≡ convert_called number new offsets (number ∷ place ∷ drop 2 answer)

-- why a call tells what it tells: 0 for a conversion, 1 for a slice too short, 11 to 20 for what the old check refuses, and no other
pub data Converts (bytes new offsets answer : List ℕ) (call : ConvertCall) : Type 0 where
  converts : 2 ≤ length answer → Room bytes new offsets → check_before bytes ≡ accepted → call ≡ converted_call bytes new offsets answer
      → Converts bytes new offsets answer call
  refuses : {number place : ℕ} → 2 ≤ length answer → check_before bytes ≡ rejected number place → 11 ≤ number → number ≤ 20
      → call ≡ convert_called number new offsets (number ∷ place ∷ drop 2 answer) → Converts bytes new offsets answer call
  short : 2 ≤ length answer → Short bytes new offsets → call ≡ convert_called 1 new offsets (1 ∷ 0 ∷ drop 2 answer) → Converts bytes new offsets answer call
  answer-short : length answer < 2 → call ≡ convert_called 1 new offsets answer → Converts bytes new offsets answer call

abbrev pub ConvertMeans : Type 0
ConvertMeans = (bytes new offsets answer : List ℕ) → Converts bytes new offsets answer (convert_call bytes new offsets answer)

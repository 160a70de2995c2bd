-- The three functions that callers in C, C++ and Rust have: what a call returns and leaves in the lent slices, the slice for the answer included.
use Rattle.std.specs.Prelude.{ℕ, cond, List, [], ◌∷◌, leb, length, get_or}
use Rattle.container.specs.Check.{check_input}
use Rattle.conversion.specs.Converting.{ConversionVerdict, changed, refused, Conversion, conversion}
use Rattle.input.specs.Verdict.{InputVerdict, accepted, rejected}
use Rattle.demands.specs.Answers.{Told, released, refused_input, refused_state}
use Rattle.demands.specs.Given.{Given}
use Rattle.demands.specs.Lent.{Lent}
use Rattle.demands.specs.Monitor.{Run, written, monitor}

-- ---- `cilunovay_run`

-- what a run answers: 0, rows, columns and the bytes of the text; or the number and the place, a byte offset and two zeros, or a step, a row and
-- a column
abbrev pub numbers_of : Told → List ℕ
numbers_of (released rows columns bytes) = 0 ∷ rows ∷ columns ∷ bytes ∷ []
numbers_of (refused_input number place) = number ∷ place ∷ 0 ∷ 0 ∷ []
numbers_of (refused_state number step row column) = number ∷ step ∷ row ∷ column ∷ []

pub record RunCall : Type 0 where
  pub number : ℕ
  pub left : Lent
  pub answer : List ℕ

abbrev pub run_called : ℕ → Lent → List ℕ → RunCall
run_called number left answer = record { number = number; left = left; answer = answer }

-- the answer's numbers stand at the start of its slice, and the first is the call's own
abbrev pub run_told : Run → List ℕ → RunCall
run_told run answer = run_called (get_or (numbers_of run.answer) 0 0) run.left (written (numbers_of run.answer) answer)

-- "1: a lent slice is too short .. First of all checks; .. nothing changes": the slice for the answer needs 4 elements
unfoldable pub run_call : Given → Lent → List ℕ → RunCall
run_call given lent answer = cond (leb 4 (length answer)) (run_told (monitor given lent) answer) (run_called 1 lent answer)

-- ---- `cilunovay_check`

-- what the input checks answer: two zeros; or document 01's number and the byte offset
abbrev pub check_numbers_of : InputVerdict → List ℕ
check_numbers_of accepted = 0 ∷ 0 ∷ []
check_numbers_of (rejected number place) = number ∷ place ∷ []

pub record CheckCall : Type 0 where
  pub number : ℕ
  pub answer : List ℕ

abbrev pub check_called : ℕ → List ℕ → CheckCall
check_called number answer = record { number = number; answer = answer }

abbrev pub check_told : List ℕ → List ℕ → CheckCall
check_told numbers answer = check_called (get_or numbers 0 0) (written numbers answer)

-- the same with the input checks, whose answer needs 2 elements
unfoldable pub check_call : List ℕ → List ℕ → CheckCall
check_call bytes answer = cond (leb 2 (length answer)) (check_told (check_numbers_of (check_input bytes)) answer) (check_called 1 answer)

-- ---- `cilunovay_convert`

-- what a conversion answers: 0 and how many labels it changed; or the number and the place
abbrev pub convert_numbers_of : ConversionVerdict → List ℕ
convert_numbers_of (changed count) = 0 ∷ count ∷ []
convert_numbers_of (refused number place) = number ∷ place ∷ []

pub record ConvertCall : Type 0 where
  pub number : ℕ
  pub converted : List ℕ
  pub offsets : List ℕ
  pub answer : List ℕ

abbrev pub convert_called : ℕ → List ℕ → List ℕ → List ℕ → ConvertCall
convert_called number converted offsets answer = record { number = number; converted = converted; offsets = offsets; answer = answer }

abbrev pub convert_told : Conversion → List ℕ → ConvertCall
convert_told made answer =
    convert_called (get_or (convert_numbers_of made.told) 0 0) made.new made.offsets (written (convert_numbers_of made.told) answer)

-- the same with a conversion, whose answer needs 2 elements
unfoldable pub convert_call : List ℕ → List ℕ → List ℕ → List ℕ → ConvertCall
convert_call bytes converted offsets answer =
    cond (leb 2 (length answer)) (convert_told (conversion bytes converted offsets) answer) (convert_called 1 converted offsets answer)

-- Demand 1, lent memory: after each run each lent slice holds only what document 01 fixes for that answer.
use Rattle.std.specs.Prelude.{ℕ, ◌<◌, ◌≡◌, false, ◌≢◌, ℤ, pos, length, get_or, drop}
use Rattle.demands.specs.Answers.{released, refused_input, refused_state}
use Rattle.demands.specs.Given.{Given}
use Rattle.demands.specs.Lent.{Lent, enough}
use Rattle.demands.specs.Monitor.{Begun, monitor}

-- no refusal alters the output, or the slice for the text
abbrev pub RefusalKeepsOutput : Type 0
RefusalKeepsOutput = (given : Given) (lent : Lent) → ((rows columns bytes : ℕ) → (monitor given lent).answer ≢ released rows columns bytes)
    → ((monitor given lent).left.output ≡ lent.output) × ((monitor given lent).left.text ≡ lent.text)

-- an input refusal alters nothing, and neither does 1
abbrev pub InputRefusalKeepsAll : Type 0
InputRefusalKeepsAll = (given : Given) (lent : Lent) (number place : ℕ) → (monitor given lent).answer ≡ refused_input number place
    → (monitor given lent).left ≡ lent

abbrev pub ShortKeepsAll : Type 0
ShortKeepsAll = (given : Given) (lent : Lent) → enough lent ≡ false → monitor given lent ≡ record { answer = refused_state 1 0 0 0; left = lent }

-- A run that was begun leaves its work memory zero, and what lies past the first 8,192 elements as it was. #103: "A further work slice
-- of 1,024 marks is lent, tested under 1 and left zero."
pub record Zeroed (lent left : Lent) : Type 0 where
  pub values-zero : (i : ℕ) (d : ℤ) → i < 8192 → get_or left.values i d ≡ pos 0
  pub values-past : drop 8192 left.values ≡ drop 8192 lent.values
  pub labels-zero : (i d : ℕ) → i < 8192 → get_or left.labels i d ≡ 0
  pub labels-past : drop 8192 left.labels ≡ drop 8192 lent.labels
  pub marks-zero : (i d : ℕ) → i < 1024 → get_or left.marks i d ≡ 0
  pub marks-past : drop 1024 left.marks ≡ drop 1024 lent.marks

abbrev pub BegunLeavesZero : Type 0
BegunLeavesZero = (year : ℕ) (given : Given) (lent : Lent) → Begun year given lent → Zeroed lent (monitor given lent).left

-- every slice keeps its length
pub record SameLengths (lent left : Lent) : Type 0 where
  pub values : length left.values ≡ length lent.values
  pub labels : length left.labels ≡ length lent.labels
  pub marks : length left.marks ≡ length lent.marks
  pub output : length left.output ≡ length lent.output
  pub trace : length left.trace ≡ length lent.trace
  pub text : length left.text ≡ length lent.text

abbrev pub LengthsKept : Type 0
LengthsKept = (given : Given) (lent : Lent) → SameLengths lent (monitor given lent).left

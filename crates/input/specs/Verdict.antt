-- What the checks of an input come to: a number of document 01 and a place, or nothing wrong.
use Rattle.std.specs.Prelude.{ℕ, Bool, cond}

-- document 01's number and place of an input that is refused
pub data InputVerdict : Type 0 where
  accepted : InputVerdict
  rejected : ℕ → ℕ → InputVerdict

-- the first of two checks that is not passed
abbrev pub and_then : InputVerdict → InputVerdict → InputVerdict
and_then accepted later = later
and_then (rejected number place) later = rejected number place

abbrev pub reject_if : Bool → ℕ → ℕ → InputVerdict
reject_if fact number place = cond fact (rejected number place) accepted

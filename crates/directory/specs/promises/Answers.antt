-- What an answer of the check says under a number.
use Rattle.std.specs.Prelude.{ℕ, Result, Ok, Err}
use Rattle.directory.specs.declared.WrongPair.{WrongPair}
use Rattle.input.specs.Verdict.{InputVerdict, accepted, rejected}

abbrev pub directory_says : ℕ → Result (Unit {0}) WrongPair → InputVerdict
directory_says number (Ok _) = accepted
directory_says number (Err wrong) = rejected number wrong.place

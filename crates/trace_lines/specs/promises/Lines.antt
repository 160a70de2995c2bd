-- A trace line in its step's place.
use Rattle.std.specs.Prelude.{ℕ, ◌+◌, ◌*◌, Bool, List, ◌++◌, leb, length, take, drop}
use Rattle.plan.specs.Trace.{Line, line_numbers}

abbrev pub line : ℕ → ℕ → ℕ → ℕ → Line
line kind rows columns stages = record { kind = kind; rows = rows; columns = columns; stages = stages }

-- the trace has room for the step's line
abbrev pub line_fits : ℕ → List ℕ → Bool
line_fits step trace = leb (4 * step + 4) (length trace)

-- a trace with a line in the step's place
abbrev pub with_line : ℕ → Line → List ℕ → List ℕ
with_line step line trace = take (4 * step) trace ++ (line_numbers line ++ drop (4 * step + 4) trace)

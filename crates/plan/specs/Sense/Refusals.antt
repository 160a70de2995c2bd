-- Where a step refuses: "The first cell met row by row, left to right, gives the place." These are theorems about the definitions, each proved;
-- nothing here is to be believed.
use Rattle.std.specs.Prelude.{ℕ, ◌+◌, ◌≤◌, ◌<◌, ◌≡◌, true, false, List, [], map, ◌⊎◌, length, get_or}
use Rattle.label_discharge.specs.Discharge.{forbids_t, forbids_a, forbids_n}
use Rattle.plan.specs.Masks.{in_mask}
use Rattle.plan.specs.Evaluate.{check_release}
use Rattle.plan.specs.Steps.{check}
use Rattle.plan.specs.Table.{Row, Cell, Table, clear, cell_at, top, second, grid}
use Rattle.plan.specs.Verdict.{Verdict, fine, refused}
use Rattle.plan.specs.declared.Aggregate.{Aggregate}
use Rattle.plan.specs.declared.Comparison.{Comparison}
use Rattle.plan.specs.declared.Operand.{Operand}
use Rattle.plan.specs.declared.Operand.TheVariants.{Constant, Column}
use Rattle.plan.specs.declared.Step.TheVariants.{Join, Filter, Apply, Group, Noise}
use Rattle.plan.specs.declared.Transform.{Transform}
use Rattle.plan.specs.declared.Transform.TheVariants.{Add, Sub, Cut, Band}
use Rattle.value.specs.Range.{in_range}

-- a refusal: its number, and its row and column
pub record RefusalPlace : Type 0 where
  pub number : ℕ
  pub row : ℕ
  pub column : ℕ

abbrev pub place : ℕ → ℕ → ℕ → RefusalPlace
place number row column = record { number = number; row = row; column = column }

-- A check is fine where no place fails. Else it refuses at a place that fails, and no place before it does.
pub data FirstAt (Before : RefusalPlace → RefusalPlace → Type 0) (Fails : RefusalPlace → Type 0) : Verdict → Type 0 where
  nowhere : ((p : RefusalPlace) → ¬ Fails p) → FirstAt Before Fails fine
  at : {number row column : ℕ} → Fails (place number row column) → ((p : RefusalPlace) → Before p (place number row column) → ¬ Fails p)
      → FirstAt Before Fails (refused number row column)

-- "row by row, left to right"
abbrev pub RowByRow : RefusalPlace → RefusalPlace → Type 0
RowByRow p q = (p.row < q.row) ⊎ ((p.row ≡ q.row) × (p.column < q.column))

-- all places of one number before those of the next
abbrev pub NumberByNumber : RefusalPlace → RefusalPlace → Type 0
NumberByNumber p q = (p.number < q.number) ⊎ ((p.number ≡ q.number) × RowByRow p q)

-- row by row, and in each row one number before the next
abbrev pub InEachRow : RefusalPlace → RefusalPlace → Type 0
InEachRow p q = (p.row < q.row) ⊎ ((p.row ≡ q.row) × (p.number < q.number))

-- the row of a table, and one of no cells where there is none
abbrev pub row_in : ℕ → Table → Row
row_in row table = get_or table.rows row (record { cells = []; mark = 0 })

-- the cell in a row and a column, and a clear one where there is none
abbrev pub cell_in : Table → ℕ → ℕ → Cell
cell_in table row column = cell_at column (row_in row table)

abbrev pub NotClear : Table → ℕ → ℕ → Type 0
NotClear table row column = clear (cell_in table row column).label ≡ false

-- ---- "31: a FILTER operand, JOIN key or GROUP key is not clear."

-- the column of a second operand
abbrev pub OperandColumn : Operand → ℕ → Type 0
OperandColumn (Constant value) column = ⊥
OperandColumn (Column other) column = column ≡ other

abbrev pub FilterFails : ℕ → Operand → Table → RefusalPlace → Type 0
FilterFails column operand table p =
    (p.number ≡ 31) × ((p.column ≡ column) ⊎ OperandColumn operand p.column) × NotClear table p.row p.column

abbrev pub FilterRefusal : Type 0
FilterRefusal = (column : ℕ) (comparison : Comparison) (operand : Operand) (left : ℕ) (stack : List Table)
    → FirstAt RowByRow (FilterFails column operand (top stack)) (check (Filter column comparison operand) left (map grid stack))

-- "Right rows of a JOIN are numbered on from the left."
abbrev pub JoinFails : ℕ → ℕ → Table → Table → RefusalPlace → Type 0
JoinFails a b left right p =
    (p.number ≡ 31)
    × (((p.column ≡ a) × NotClear left p.row p.column)
    ⊎ ((row : ℕ) × (p.row ≡ length left.rows + row) × (p.column ≡ b) × NotClear right row p.column))

abbrev pub JoinRefusal : Type 0
JoinRefusal = (a b left : ℕ) (stack : List Table) → FirstAt RowByRow (JoinFails a b (second stack) (top stack)) (check (Join a b) left (map grid stack))

-- "32: .. GROUP forbidden by the first operand's label. In GROUP, after all keys."
abbrev pub GroupFails : ℕ → ℕ → Table → RefusalPlace → Type 0
GroupFails keys column table p =
    ((p.number ≡ 31) × (in_mask keys p.column ≡ true) × NotClear table p.row p.column)
    ⊎ ((p.number ≡ 32) × (p.column ≡ column) × (forbids_a (cell_in table p.row p.column).label ≡ true))

abbrev pub GroupRefusal : Type 0
GroupRefusal = (keys : ℕ) (aggregate : Aggregate) (column left : ℕ) (stack : List Table)
    → FirstAt NumberByNumber (GroupFails keys column (top stack)) (check (Group keys aggregate column) left (map grid stack))

-- ---- "32: APPLY .. forbidden by the first operand's label." "33: APPLY's second operand is not clear; in each row after 32."

abbrev pub SecondColumn : Transform → ℕ → Type 0
SecondColumn (Add operand) column = OperandColumn operand column
SecondColumn (Sub operand) column = OperandColumn operand column
SecondColumn (Cut digits) column = ⊥
SecondColumn (Band width) column = ⊥

abbrev pub ApplyFails : ℕ → Transform → Table → RefusalPlace → Type 0
ApplyFails column transform table p =
    ((p.number ≡ 32) × (p.column ≡ column) × (forbids_t (cell_in table p.row p.column).label ≡ true))
    ⊎ ((p.number ≡ 33) × SecondColumn transform p.column × NotClear table p.row p.column)

abbrev pub ApplyRefusal : Type 0
ApplyRefusal = (column : ℕ) (transform : Transform) (left : ℕ) (stack : List Table)
    → FirstAt InEachRow (ApplyFails column transform (top stack)) (check (Apply column transform) left (map grid stack))

-- ---- #102: "forbidden with 32 where T, A or H stands highest"; "37 at a row for which no draw is left, column a, after 32 in that row"

abbrev pub NoiseFails : ℕ → ℕ → Table → RefusalPlace → Type 0
NoiseFails column left table p =
    (p.row < length table.rows) × (p.column ≡ column)
    × (((p.number ≡ 32) × (forbids_n (cell_in table p.row column).label ≡ true)) ⊎ ((p.number ≡ 37) × (left ≤ p.row)))

abbrev pub NoiseRefusal : Type 0
NoiseRefusal = (column left : ℕ) (stack : List Table)
    → FirstAt InEachRow (NoiseFails column left (top stack)) (check (Noise column) left (map grid stack))

-- ---- "35: at release a cell has a stage left. 36: no 35, but a cell is OVER."

abbrev pub ReleaseFails : Table → RefusalPlace → Type 0
ReleaseFails table p =
    ((p.number ≡ 35) × NotClear table p.row p.column)
    ⊎ ((p.number ≡ 36) × (p.column < length (row_in p.row table).cells) × (in_range (cell_in table p.row p.column).value ≡ false))

abbrev pub ReleaseRefusal : Type 0
ReleaseRefusal = (table : Table) → FirstAt NumberByNumber (ReleaseFails table) (check_release table)

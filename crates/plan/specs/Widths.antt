-- Which tables and columns a step needs, and how many columns it makes: what 18 and 19 test, from the widths of the container's tables and of
-- the tables on the stack, the last pushed first.
use Rattle.std.specs.Prelude.{ℕ, ◌+◌, ◌-◌, ◌^◌, Bool, true, cond, ◌&&◌, List, eqb, leb, ltb, length, get_or}
use Rattle.plan.specs.Keep.{kept_count}
use Rattle.plan.specs.Steps.{takes}
use Rattle.plan.specs.declared.Operand.{Operand}
use Rattle.plan.specs.declared.Operand.TheVariants.{Constant, Column}
use Rattle.plan.specs.declared.Step.{Step}
use Rattle.plan.specs.declared.Step.TheVariants.{Scan, Union, Join, Filter, Keep, Apply, Group, Noise}
use Rattle.plan.specs.declared.Transform.{Transform}
use Rattle.plan.specs.declared.Transform.TheVariants.{Add, Sub, Cut, Band}

-- "18: too few tables, or a SCAN onto three." SCAN is the step that takes none.
unfoldable pub enough_tables : Step → ℕ → Bool
enough_tables step depth = cond (eqb (takes step) 0) (ltb depth 3) (leb (takes step) depth)

-- a mask with no bit past the columns
abbrev pub mask_fits : ℕ → ℕ → Bool
mask_fits mask width = ltb mask (2 ^ width)

-- an operand's column exists, and a transform's
abbrev pub operand_column_exists : Operand → ℕ → Bool
operand_column_exists (Constant value) width = true
operand_column_exists (Column column) width = ltb column width

abbrev pub transform_column_exists : Transform → ℕ → Bool
transform_column_exists (Add operand) width = operand_column_exists operand width
transform_column_exists (Sub operand) width = operand_column_exists operand width
transform_column_exists (Cut digits) width = true
transform_column_exists (Band amount) width = true

-- "19: a table or column that does not exist, unequal widths"
unfoldable pub columns_exist : Step → List ℕ → List ℕ → Bool
columns_exist (Scan table) tables stack = ltb table (length tables)
columns_exist Union tables stack = eqb (get_or stack 1 0) (get_or stack 0 0)
columns_exist (Join left right) tables stack = ltb left (get_or stack 1 0) && ltb right (get_or stack 0 0)
columns_exist (Filter column comparison operand) tables stack = ltb column (get_or stack 0 0) && operand_column_exists operand (get_or stack 0 0)
columns_exist (Keep mask) tables stack = mask_fits mask (get_or stack 0 0)
columns_exist (Apply column transform) tables stack = ltb column (get_or stack 0 0) && transform_column_exists transform (get_or stack 0 0)
columns_exist (Group keys aggregate column) tables stack = mask_fits keys (get_or stack 0 0) && ltb column (get_or stack 0 0)
columns_exist (Noise column) tables stack = ltb column (get_or stack 0 0)

-- the columns of the table that a step makes
unfoldable pub made_columns : Step → List ℕ → List ℕ → ℕ
made_columns (Scan table) tables stack = get_or tables table 0
made_columns Union tables stack = get_or stack 1 0
made_columns (Join left right) tables stack = get_or stack 1 0 + (get_or stack 0 0 - 1)
made_columns (Filter column comparison operand) tables stack = get_or stack 0 0
made_columns (Keep mask) tables stack = kept_count mask (get_or stack 0 0)
made_columns (Apply column transform) tables stack = get_or stack 0 0 + 1
made_columns (Group keys aggregate column) tables stack = kept_count keys (get_or stack 0 0) + 1
made_columns (Noise column) tables stack = get_or stack 0 0 + 1

-- ".. over 8 columns"
abbrev pub placed : Step → List ℕ → List ℕ → Bool
placed step tables stack = columns_exist step tables stack && leb (made_columns step tables stack) 8

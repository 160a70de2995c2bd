-- The numbers of documents 01 and 02: each step's kind, and the code of each choice.
use Rattle.std.specs.Prelude.{ℕ, Bool, eqb}
use Rattle.plan.specs.declared.Aggregate.{Aggregate}
use Rattle.plan.specs.declared.Aggregate.TheVariants.{Count, Sum, Min, Max, Avg}
use Rattle.plan.specs.declared.Comparison.{Comparison}
use Rattle.plan.specs.declared.Comparison.TheVariants.{Equal, Unequal, Less, AtMost, Greater, AtLeast}
use Rattle.plan.specs.declared.Step.{Step}
use Rattle.plan.specs.declared.Step.TheVariants.{Scan, Union, Join, Filter, Keep, Apply, Group, Noise}
use Rattle.plan.specs.declared.Transform.{Transform}
use Rattle.plan.specs.declared.Transform.TheVariants.{Add, Sub, Cut, Band}

-- "1. SCAN" to "7. GROUP", and "step kind 8, NOISE"
abbrev pub kind_of : Step → ℕ
kind_of (Scan table) = 1
kind_of Union = 2
kind_of (Join left right) = 3
kind_of (Filter column comparison operand) = 4
kind_of (Keep mask) = 5
kind_of (Apply column transform) = 6
kind_of (Group keys aggregate column) = 7
kind_of (Noise column) = 8

abbrev pub is_noise : Step → Bool
is_noise step = eqb (kind_of step) 8

-- "comparison (0 to 5: =, ≠, <, ≤, >, ≥)"
abbrev pub comparison_code : Comparison → ℕ
comparison_code Equal = 0
comparison_code Unequal = 1
comparison_code Less = 2
comparison_code AtMost = 3
comparison_code Greater = 4
comparison_code AtLeast = 5

-- "0 add, 1 sub, 2 cut, 3 band"
abbrev pub transform_code : Transform → ℕ
transform_code (Add operand) = 0
transform_code (Sub operand) = 1
transform_code (Cut digits) = 2
transform_code (Band width) = 3

-- the digits that a cut takes off
abbrev pub digits_taken : Transform → ℕ
digits_taken (Add operand) = 0
digits_taken (Sub operand) = 0
digits_taken (Cut digits) = digits
digits_taken (Band width) = 0

-- "0 count, 1 sum, 2 min, 3 max, 4 avg"
abbrev pub aggregate_code : Aggregate → ℕ
aggregate_code Count = 0
aggregate_code Sum = 1
aggregate_code Min = 2
aggregate_code Max = 3
aggregate_code Avg = 4

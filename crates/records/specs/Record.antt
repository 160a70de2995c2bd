-- "steps of 16 bytes: kind, a, b, c, d, three zero bytes, and a signed 64-bit constant in value range. Unused fields are zero."
use Rattle.std.specs.Prelude.{ℕ, ◌+◌, ◌-◌, ◌*◌, ◌^◌, Bool, cond, not, ◌&&◌, ◌||◌, List, Option, Some, None, eqb, leb, ltb}
use Rattle.little_endian.specs.Bytes.{number_at, byte_at}
use Rattle.plan.specs.declared.Aggregate.{Aggregate}
use Rattle.plan.specs.declared.Aggregate.TheVariants.{Count, Sum, Min, Max, Avg}
use Rattle.plan.specs.declared.Comparison.{Comparison}
use Rattle.plan.specs.declared.Comparison.TheVariants.{Equal, Unequal, Less, AtMost, Greater, AtLeast}
use Rattle.plan.specs.declared.Operand.{Operand}
use Rattle.plan.specs.declared.Operand.TheVariants.{Constant, Column}
use Rattle.plan.specs.declared.Step.{Step}
use Rattle.plan.specs.declared.Step.TheVariants.{Scan, Union, Join, Filter, Keep, Apply, Group, Noise}
use Rattle.plan.specs.declared.Transform.TheVariants.{Add, Sub, Cut, Band}
use Rattle.records.specs.declared.Fields.{Fields}
use Rattle.value.specs.Pattern.{signed_of}
use Rattle.value.specs.Range.{in_range}

-- the record of a step
unfoldable pub fields_at : List ℕ → ℕ → Fields
fields_at part step = record {
  kind = byte_at part (16 * step);
  a = byte_at part (16 * step + 1);
  b = byte_at part (16 * step + 2);
  c = byte_at part (16 * step + 3);
  d = byte_at part (16 * step + 4);
  spare = number_at part (16 * step + 5) 3;
  constant = number_at part (16 * step + 8) 8;
}

-- the choices by their numbers, as document 01 has them; past the last one, the last
abbrev pub comparison_of : ℕ → Comparison
comparison_of b = cond (eqb b 0) Equal (cond (eqb b 1) Unequal (cond (eqb b 2) Less (cond (eqb b 3) AtMost (cond (eqb b 4) Greater AtLeast))))

abbrev pub aggregate_of : ℕ → Aggregate
aggregate_of b = cond (eqb b 0) Count (cond (eqb b 1) Sum (cond (eqb b 2) Min (cond (eqb b 3) Max Avg)))

-- "c = 0: against the constant; c = 1: against column d." The other of the two is unused, and zero.
unfoldable pub operand_written : Fields → Bool
operand_written f = (eqb f.c 0 && eqb f.d 0 && in_range (signed_of f.constant)) || (eqb f.c 1 && eqb f.constant 0)

abbrev pub operand_of : Fields → Operand
operand_of f = cond (eqb f.c 0) (Constant (signed_of f.constant)) (Column f.d)

-- "cut and band take only a constant: 1 to 6, and 1 to 2^47 − 1."
unfoldable pub amount_fits : ℕ → Fields → Bool
amount_fits most f = eqb f.c 0 && eqb f.d 0 && leb 1 f.constant && leb f.constant most

-- fields that a step does not use
abbrev pub zeros : ℕ → ℕ → Bool
zeros x constant = eqb x 0 && eqb constant 0

-- a step, where its record is as it should be
abbrev pub when : Bool → Step → Option Step
when fits step = cond fits (Some step) None

-- APPLY, by its choice
abbrev pub apply_by : ℕ → Fields → Option Step
apply_by b f =
    cond (eqb b 0) (when (operand_written f) (Apply f.a (Add (operand_of f))))
    (cond (eqb b 1) (when (operand_written f) (Apply f.a (Sub (operand_of f))))
    (cond (eqb b 2) (when (amount_fits 6 f) (Apply f.a (Cut f.constant)))
    (cond (eqb b 3) (when (amount_fits (2 ^ 47 - 1) f) (Apply f.a (Band (signed_of f.constant)))) None)))

-- the step of each kind (8 by #102); "17: kind, a choice, a constant, a zero mask in KEEP, or an unused field .. not zero"
abbrev pub by_kind : ℕ → Fields → Option Step
by_kind kind f =
    cond (eqb kind 1) (when (zeros (f.b + f.c + f.d) f.constant) (Scan f.a))
    (cond (eqb kind 2) (when (zeros (f.a + f.b + f.c + f.d) f.constant) Union)
    (cond (eqb kind 3) (when (zeros (f.c + f.d) f.constant) (Join f.a f.b))
    (cond (eqb kind 4) (when (ltb f.b 6 && operand_written f) (Filter f.a (comparison_of f.b) (operand_of f)))
    (cond (eqb kind 5) (when (not (eqb f.a 0) && zeros (f.b + f.c + f.d) f.constant) (Keep f.a))
    (cond (eqb kind 6) (apply_by f.b f)
    (cond (eqb kind 7) (when (ltb f.b 5 && zeros f.d f.constant) (Group f.a (aggregate_of f.b) f.c))
    (cond (eqb kind 8) (when (zeros (f.b + f.c + f.d) f.constant) (Noise f.a)) None)))))))

-- ".. or one of the three bytes not zero"
unfoldable pub step_of : Fields → Option Step
step_of f = cond (eqb f.spare 0) (by_kind f.kind f) None

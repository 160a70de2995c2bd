-- `csv_writer::length::count_from` meets its contract. Assumes nothing.
use Prim.Native.Nat.{suc}
use native.Mathlib.Omega.{arith}
use Rattle.csv_writer.proofs.Digits.{few, many, low-power}
use Rattle.csv_writer.proofs.length.count_from.Goals as goal

pub overflow_mul-power : goal.overflow_mul-power
overflow_mul-power c = omega (arith, low-power _ c.requires.0)

pub overflow_mul-power-then-n-power : goal.overflow_mul-power-then-n-power
overflow_mul-power-then-n-power c = omega (arith, low-power _ c.requires.0)

pub overflow_mul-power-else-n-power : goal.overflow_mul-power-else-n-power
overflow_mul-power-else-n-power c = omega (arith, low-power _ c.requires.0)

pub returns-then-n-power-2 : goal.returns-then-n-power-2
returns-then-n-power-2 c = let a = c.args in omega (arith, few a.below a.n (omega arith))

pub returns-else-n-power-2 : goal.returns-else-n-power-2
returns-else-n-power-2 c = let a = c.args in omega (arith, many (suc a.below) a.n (omega arith), few (suc a.below) a.n (omega arith))

pub returns-then-n-power-3 : goal.returns-then-n-power-3
returns-then-n-power-3 c = let a = c.args in omega (arith, many (suc (suc a.below)) a.n (omega arith), few (suc (suc a.below)) a.n (omega arith))

pub returns-else-n-power-3 : goal.returns-else-n-power-3
returns-else-n-power-3 c = let a = c.args in omega (arith, many (suc (suc (suc a.below))) a.n (omega arith))

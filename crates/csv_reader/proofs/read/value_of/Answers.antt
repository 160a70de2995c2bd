-- `csv_reader::read::value_of` meets its contract. Assumes nothing.
use Prim.Native.Nat.{ℕ, zero, suc, ◌^◌, ◌≤◌, ◌<◌}
use native.Mathlib.Omega.{arith}
use lib.IntN.{pos, neg_ℤ, +ℤ_idl}
use lib.Signed.{mag}
use mir.Syntax.{w64}
use mir.Facts.{to_z-of_z, to_z_pos}
use Rattle.csv_reader.specs.Reader.{value_of}
use borrow.Author.Rules.{sfits_of}
use Rattle.csv_reader.proofs.read.value_of.Goals as goal
use Rattle.csv_reader.proofs.read.value_of.Goals.{Start}

small : (c : Start) → c.args.size < 2 ^ 63
small c = omega arith

neg-fits : (n : ℕ) → n ≤ 2 ^ 47 → mag (neg_ℤ (pos n)) < 2 ^ 63
neg-fits zero h = omega arith
neg-fits (suc n) h = omega arith

pub overflow_sub-result : goal.overflow_sub-result
overflow_sub-result c = rw (to_z_pos w64 (small (goal.at.overflow_sub-result c).Start), +ℤ_idl) (sfits_of (neg-fits c.args.size c.requires))

pub returns-then-negative : goal.returns-then-negative
unfolding value_of
returns-then-negative c = rw (to_z-of_z (overflow_sub-result c), to_z_pos w64 (small (goal.at.returns-then-negative c).Start), +ℤ_idl, c.if-negative.true)

pub returns-else-negative : goal.returns-else-negative
unfolding value_of
returns-else-negative c = rw (to_z_pos w64 (small (goal.at.returns-else-negative c).Start), c.if-negative.false)

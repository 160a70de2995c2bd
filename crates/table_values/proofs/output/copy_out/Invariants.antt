-- The values copied so far stand at the output's start. Assumes nothing.
use lib.ListN.{take, drop}
use Rattle.cells.specs.promises.Written.{Written}
use Rattle.table_values.proofs.output.copy_out.Given as goal

abbrev pub invariant-loop-i : goal.invariant-loop-i
invariant-loop-i l = Written l.initial.output 0 (take l.i (drop l.at l.values)) l.output

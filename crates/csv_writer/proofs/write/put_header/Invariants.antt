-- The names so far stand at the text's start. Assumes nothing.
use lib.ListN.{take}
use Rattle.cells.specs.promises.Written.{Written}
use Rattle.csv_text.specs.Text.{names}
use Rattle.csv_writer.proofs.write.put_header.Given as goal

abbrev pub invariant-loop-i : goal.invariant-loop-i
invariant-loop-i l = Written l.initial.text 0 (take l.i names) l.text

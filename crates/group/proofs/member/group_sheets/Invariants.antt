-- `group::member::group_sheets` meets its contract. The loop: what is counted and what is left make the whole. Assumes nothing.
use Prim.Native.Nat.{◌-◌}
use Rattle.group.proofs.Sheets.{Counting}
use Rattle.group.proofs.member.group_sheets.Given as goal

abbrev pub invariant-loop-other : goal.invariant-loop-other
invariant-loop-other l = Counting l.rows l.numbers l.next l.row l.seen l.sheets l.other

abbrev pub decreases-loop-other : goal.decreases-loop-other
decreases-loop-other l = l.rows - l.other

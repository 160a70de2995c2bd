-- `mark_numbers::first_row` meets its contract. Assumes nothing.
use Rattle.mark_numbers.proofs.Firsts.{first_placed}
use Rattle.mark_numbers.proofs.first_row.Goals as goal

pub returns : goal.returns
returns c = rw (c.unwrap_or.ensures, c.place_of.ensures) (first_placed c.args.marks.now c.args.row c.requires.0)

-- `pairs::Side::marks_fit` meets its contract. Assumes nothing.
use Rattle.pairs.specs.promises.Pairs.{marks_fit}
use Rattle.pairs.proofs.Side.marks_fit.Goals as goal

pub returns : goal.returns
unfolding marks_fit
returns c = rw c.within.ensures

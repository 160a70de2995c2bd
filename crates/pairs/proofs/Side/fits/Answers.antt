-- `pairs::Side::fits` meets its contract. Assumes nothing.
use Rattle.pairs.specs.promises.Pairs.{side_fits}
use Rattle.pairs.proofs.Side.fits.Goals as goal

pub returns : goal.returns
unfolding side_fits
returns c = rw (c.within.ensures, c.area.ensures)

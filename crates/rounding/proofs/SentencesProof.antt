-- #105's sentence on the average. Assumes nothing.
use Rattle.rounding.specs.Sentences.{RoundedIsNearest, NearestIsOne}
use Rattle.rounding.proofs.Nearest.{rounded-nearest, nearest-one}

pub rounded-is-nearest : RoundedIsNearest
rounded-is-nearest total rows p = rounded-nearest total p

pub nearest-is-one : NearestIsOne
nearest-is-one total rows p q n = nearest-one total p q n

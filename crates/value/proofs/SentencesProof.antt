-- Document 01's sentence on results. Assumes nothing.
use lib.IntN.{ℤ}
use Rattle.value.specs.Range.{settled}
use Rattle.value.specs.Sentences.{Settles}
use Rattle.value.proofs.Laws.Range.{settled-in, settled-out}

pub settles : (v : ℤ) → Settles v (settled v)
settles v = record { inside = settled-in v; outside = settled-out v }

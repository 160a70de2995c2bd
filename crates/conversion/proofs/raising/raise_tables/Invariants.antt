-- `conversion::raising::raise_tables` meets its contract. Assumes nothing.
use Prim.Native.Nat.{◌-◌, ◌*◌, ◌≤◌, ◌<◌}
use Rattle.conversion.specs.Conversion.{ones_from}
use Rattle.conversion.specs.promises.Raising.{Raised}
use Rattle.layout.specs.Layout.{part_count, offset_of}
use Rattle.conversion.proofs.raising.raise_tables.Given as goal

abbrev pub invariant-loop-index : goal.invariant-loop-index
invariant-loop-index l =
    (1 ≤ l.index) × (l.index < part_count l.container → 12 * l.found ≤ offset_of l.container l.index)
    × Raised (ones_from l.container 1 (l.index - 1)) 0 l.initial.new l.initial.offsets l.found l.new l.offsets

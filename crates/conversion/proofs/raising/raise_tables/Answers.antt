-- `conversion::raising::raise_tables` meets its contract. Assumes nothing.
use Prim.Native.Nat.{suc, ◌+◌, ◌-◌}
use mathlib.Core.Path.{◌≡◌}
use native.Mathlib.Numerals.{add-one}
use native.Mathlib.Omega.{arith}
use Rattle.conversion.specs.Conversion.{changed_labels}
use Rattle.layout.specs.Layout.{part_count, offset_of, part_of}
use Rattle.table_part.specs.TablePart.{cell_count}
use Rattle.conversion.proofs.Ones.{from_more, ones-few, both-raised, new-length, offsets-length}
use Rattle.conversion.proofs.Laid.{before, laid, TableLaid, table-laid}
use Rattle.conversion.proofs.raising.raise_tables.Goals as goal
use Rattle.conversion.proofs.raising.raise_tables.Goals.{After-part_offset}

-- the table at which a turn stands
here : (c : After-part_offset) → TableLaid c.args.container.now c.loop-index.index
here c = table-laid 1 c.args.container.now (before _ c.requires.0).1 c.loop-index.index c.loop-index.invariant.0 (omega arith)

pub raise_table-found-requires : goal.raise_table-found-requires
raise_table-found-requires c =
    let t = here (goal.at.raise_table-found-requires c).After-part_offset in
    let size = (laid 1 c.args.container.now (before _ c.requires.0).1).size in
    rw (c.part.ensures, c.part_offset.ensures) (
      t.whole,
      omega (arith, t.inside, size.short),
      omega (arith, t.inside, c.requires.1, new-length c.loop-index.invariant.2),
      c.loop-index.invariant.1 (omega arith),
      omega (arith, c.requires.2, offsets-length c.loop-index.invariant.2),
    )

pub loop-index-preserved : goal.loop-index-preserved
loop-index-preserved c =
    let bytes = c.args.container.now in
    let t = here (goal.at.loop-index-preserved c).After-part_offset in
    let r = rw (c.part.ensures, c.part_offset.ensures) at c.raise_table-found.ensures in
    let one : c.loop-index.index + 1 - 1 ≡ suc (c.loop-index.index - 1) = omega (arith, c.loop-index.invariant.0) in
    let same : 1 + (c.loop-index.index - 1) ≡ c.loop-index.index = omega (arith, c.loop-index.invariant.0) in (
      omega arith,
      λ more.
          let few = ones-few (part_of bytes c.loop-index.index) (offset_of bytes c.loop-index.index) 0 (cell_count (part_of bytes c.loop-index.index)) in
          let before = c.loop-index.invariant.1 (omega arith) in
          let next = t.after (omega (arith, more)) in
          rw (add-one c.loop-index.index, next) (omega (arith, few, before, r.counted, t.whole)),
      rw (one, from_more bytes 1 (c.loop-index.index - 1), same) (both-raised c.loop-index.invariant.2 r),
    )

pub returns : goal.returns
unfolding changed_labels
returns c =
    let e : c.loop-index.index ≡ part_count c.args.container.now = omega (arith, (laid 1 _ (before _ c.requires.0).1).size.least) in
    rw (← e) c.loop-index.invariant.2

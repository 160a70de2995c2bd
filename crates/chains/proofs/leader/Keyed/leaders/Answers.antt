-- `chains::leader::Keyed::leaders` meets its contract. The loop: the rows passed have their leaders, and those that lead groups are listed with their hash values. Assumes nothing.
use Prim.Native.Nat.{◌<◌}
use mathlib.Core.Path.{◌≡◌, refl, ◌∙◌}
use native.Mathlib.Omega.{arith}
use lib.ListN.{length, length-set, length-map}
use lib.Seq.{drop-set-lt}
use Rattle.std.proofs.lemmas.List.{map-set}
use Rattle.cells.specs.promises.Cells.{cells_of}
use Rattle.chains.specs.declared.leader.Lead.{Lead}
use Rattle.chains.specs.promises.Leads.{lead_of}
use Rattle.chains.proofs.Leading.{leaders-more}
use Rattle.chains.proofs.Leads.{before-first, before-next, before-more, first-is}
use Rattle.chains.proofs.Listing.{listed-passed, listed_more}
use Rattle.chains.proofs.Zeros.{zeros-past}
use Rattle.chains.proofs.leader.Keyed.leaders.Goals as goal
use Rattle.chains.proofs.leader.Keyed.leaders.Goals.{else-first-row, then-first-row}

pub loop-row-init : goal.loop-row-init
loop-row-init c = (
  refl,
  refl,
  record { few = omega arith; below = λ i h. absurd (omega arith); lead = λ i h. absurd (omega arith); all = λ other h e. absurd (omega arith) },
  zeros-past c.args.self.table.rows 256,
  λ labels p. refl,
  λ i h. absurd (omega arith),
)

pub first_same-first-requires : goal.first_same-first-requires
first_same-first-requires c =
    let r = c.loop-row in
    rw c.lead-own.ensures (c.requires, c.loop-row-test.true, refl, before-first c.args.self r.row r.count r.leads r.invariant.5 (omega (arith, r.invariant.1, r.invariant.2.few, c.requires.few-rows)))

pub loop-row-preserved : goal.loop-row-preserved
loop-row-preserved c =
    let t = c.args.self in
    let r = c.loop-row in
    let first = c.first_same-first.result in
    let i = r.invariant.2 in
    let low : r.row < t.table.rows = c.loop-row-test.true in
    let room : r.count < length r.leads = omega (arith, r.invariant.1, i.few, c.requires.few-rows) in
    let is = rw c.lead-own.ensures at c.first_same-first.ensures in (
      rw length-set r.invariant.0,
      elim c.if-first-row.branch [ then-first-row w ↦ rw (w.leads-is, length-set) r.invariant.1 | else-first-row w ↦ rw w.leads-is r.invariant.1 ],
      elim c.if-first-row.branch [ then-first-row w ↦ rw (w.leads-is, w.count-is, c.lead-own.ensures, map-set (λ (lead : Lead). lead.row) r.leads r.count (lead_of t r.row)) (listed_more i first (omega arith) w.if-first-row.true (rw length-map room)) | else-first-row w ↦ rw (w.leads-is, w.count-is) (listed-passed i first (omega arith) w.if-first-row.false) ],
      drop-set-lt t.table.rows r.found r.row first low ∙ r.invariant.3,
      λ labels p. leaders-more t.keys t.table.columns t.table.at r.row first (cells_of t.values.now labels) r.found (omega arith) (r.invariant.4 labels (omega arith))
          (first-is t c.requires labels r.row r.count low p r.found r.leads i (omega arith) (r.invariant.4 labels (omega arith)) is),
      elim c.if-first-row.branch [ then-first-row w ↦ rw (w.leads-is, w.count-is, c.lead-own.ensures) (before-more t r.row r.count r.leads r.invariant.5 room) | else-first-row w ↦ rw (w.leads-is, w.count-is) (before-next t r.row r.count r.leads r.invariant.5) ],
    )

pub returns : goal.returns
returns c =
    let e : c.loop-row.row ≡ c.args.self.table.rows = omega arith in
    record { full = c.loop-row.invariant.0; are = rw e at c.loop-row.invariant.4; rest = c.loop-row.invariant.3 }

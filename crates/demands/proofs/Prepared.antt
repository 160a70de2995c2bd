-- The tables of an accepted input, with its overlays and under a rule year: what holds of the container's holds of them. Assumes nothing.
use Prim.Native.Nat.{ℕ, ◌≤◌}
use mathlib.Core.Path.{◌≡◌, sym, subst, ◌∙◌}
use mathlib.Core.List.{List, []}
use lib.ListN.{length}
use Rattle.accepted.specs.Accepted.{Placed}
use Rattle.accepted.proofs.AcceptedPlan.{plan-placed}
use Rattle.accepted.proofs.AcceptedTables.{tables-sound}
use Rattle.container.specs.Check.{check_input}
use Rattle.container.specs.Contents.{tables_of}
use Rattle.input.specs.Verdict.{accepted}
use Rattle.memory.specs.promises.Steps.{widths_of}
use Rattle.overlaid.proofs.Overlaid.{container-accepted, overlays-stricter}
use Rattle.plan.specs.Secrecy.{Pairwise, none, more}
use Rattle.plan.specs.Sense.{Small}
use Rattle.plan.specs.Table.{Row, Table, Each, Shaped}
use Rattle.plan.proofs.Pairs.{same_length, maps-same}
use Rattle.strictness.specs.Strictness.{StricterRows, StricterTables}
use Rattle.demands.specs.Given.{Given, check_given, plan_given, prepared}

pub container-ok : (given : Given) → check_given given ≡ accepted → check_input given.container ≡ accepted
container-ok given = container-accepted given.container given.overlays

-- what holds of each table, and goes by its shape, holds of each table under stricter labels
carried : (P : Table → Type 0) → ((a b : Table) → StricterTables a b → P a → P b) → {xs ys : List Table} → Pairwise StricterTables xs ys → Each P xs → Each P ys
carried P f none e = tt
carried P f (more {x} {y} s p) e = (f x y s e.0, carried P f p e.1)

rows-wide : (columns : ℕ) {xs ys : List Row} → Pairwise StricterRows xs ys → Each (λ row. length row.cells ≡ columns) xs → Each (λ row. length row.cells ≡ columns) ys
rows-wide columns none e = tt
rows-wide columns (more r p) e = (sym (same_length r.cells) ∙ e.0, rows-wide columns p e.1)

shaped-too : (a b : Table) → StricterTables a b → Shaped a → Shaped b
shaped-too a b s h = rw (← s.columns) (rows-wide a.columns s.rows h)

small-too : (a b : Table) → StricterTables a b → Small a → Small b
small-too a b s h = rw (← same_length s.rows) h

module _ (year : ℕ) (given : Given) (e : check_given given ≡ accepted) where
  pub stricter : Pairwise StricterTables (tables_of given.container) (prepared year given)
  stricter = overlays-stricter year given.container given.overlays e

  pub widths-same : widths_of (tables_of given.container) ≡ widths_of (prepared year given)
  widths-same = maps-same (λ table. table.columns) (λ a b s. s.columns) stricter

  pub placed-given : Placed (widths_of (prepared year given)) [] (plan_given given)
  placed-given = subst (λ (widths : List ℕ). Placed widths [] (plan_given given)) widths-same (plan-placed given.container (container-ok given e))

  pub prepared-shaped : Each Shaped (prepared year given)
  prepared-shaped = carried Shaped shaped-too stricter (tables-sound given.container (container-ok given e)).0

  pub prepared-small : Each Small (prepared year given)
  prepared-small = carried Small small-too stricter (tables-sound given.container (container-ok given e)).1

  pub prepared-columns : Each (λ table. (1 ≤ table.columns) × (table.columns ≤ 8)) (prepared year given)
  prepared-columns = carried _ (λ a b s h. rw (← s.columns) h) stricter (tables-sound given.container (container-ok given e)).2

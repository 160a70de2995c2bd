-- What the overlays of a run can and cannot change. Assumes nothing.
use Prim.Native.Nat.{ℕ, suc, ◌+◌, ◌<◌}
use mathlib.Core.Path.{◌≡◌, refl, sym, ap, ap₂, ◌∙◌}
use mathlib.Core.Bool.{Bool, true, false, cond}
use mathlib.Core.List.{List, [], ◌∷◌, ◌++◌}
use native.Mathlib.Nat.{add-suc, suc-add, add-zero, zero-add}
use native.Mathlib.Omega.{arith}
use lib.Dec.{eqb}
use lib.IntN.{ℤ}
use lib.ListN.{length}
use Rattle.container.specs.Check.{check_input}
use Rattle.container.specs.Contents.{plan_of, input_tables}
use Rattle.demands.specs.Given.{Given, supply_given}
use Rattle.demands.specs.Monitor.{evaluation, with_text, run_outcome, answer_of, rows_out, text_out, written, Run}
use Rattle.demands.proofs.AccuracyProof.{release-means}
use Rattle.demands.proofs.Runs.{begun-run}
use Rattle.input.specs.Verdict.{accepted}
use Rattle.input.proofs.Laws.{both}
use Rattle.label_composition.specs.Composition.{composed}
use Rattle.label_laws.proofs.Laws.{compose-clear}
use Rattle.layout.specs.Layout.{rule_year, part_of}
use Rattle.overlaid.proofs.Overlaid.{container-accepted, overlays-accepted, overlay-passed, Ready, with_all, tables-ready, without-less-strict}
use Rattle.overlaid.proofs.Tables.{FormedCell, Whole, Wholes}
use Rattle.overlay_check.specs.OverlayCheck.{check_overlay}
use Rattle.overlay_part.specs.OverlayPart.{label_in, overlaid_cells, overlaid}
use Rattle.overlays.specs.Overlays.{check_overlays, check_all, overlaid_from, with_overlay, with_overlays}
use Rattle.plan.specs.Evaluate.{Outcome, release}
use Rattle.plan.specs.Sheets.{InputTable}
use Rattle.plan.specs.Table.{Cell, Table, Each}
use Rattle.strictness.specs.Strictness.{StricterSupplies}
use Rattle.strictness.proofs.AboutStrictness.{less-strict-releases}
use Rattle.overlay_demands.specs.Overlays.{with, OrderMakesNoDifference, ReleasedWithout, ZeroLabels, ZeroChangesNothing}
use Rattle.overlay_demands.proofs.Same.{same-run}
use Rattle.overlay_demands.proofs.Orders.{reordered-passes, reordered-tables}

-- a container that is accepted, with overlays that are
accepted-with : (container : List ℕ) (overlays : List (List ℕ)) → check_input container ≡ accepted → check_overlays container overlays ≡ accepted → check_all container overlays ≡ accepted
unfolding check_all
accepted-with container overlays e f = rw (e, f)

pub order-makes-no-difference : OrderMakesNoDifference
order-makes-no-difference container draws overlays others r ok =
    let checks = container-accepted container overlays ok in
    same-run container draws overlays others (reordered-tables r (input_tables container)) ok
    (accepted-with container others checks (reordered-passes container r (overlays-accepted container overlays ok)))

-- ---- without them

empty-passes : (container : List ℕ) (none : List (List ℕ)) → Each (λ overlay. overlay ≡ []) none → check_overlays container none ≡ accepted
unfolding check_overlay
empty-passes container [] e = refl
empty-passes container (overlay ∷ rest) e = rw e.0 (empty-passes container rest e.1)

empty-tables : (none : List (List ℕ)) → Each (λ overlay. overlay ≡ []) none → (tables : List InputTable) → with_overlays none tables ≡ tables
empty-tables [] e tables = refl
empty-tables (overlay ∷ rest) e tables = rw e.0 (empty-tables rest e.1 tables)

module _ (container : List ℕ) (draws : List ℤ) (overlays none : List (List ℕ)) (empty : Each (λ overlay. overlay ≡ []) none) (ok : check_all container overlays ≡ accepted) where
  abbrev a : Given
  a = with container draws overlays

  abbrev b : Given
  b = with container draws none

  without-ok : check_all container none ≡ accepted
  without-ok = accepted-with container none (container-accepted container overlays ok) (empty-passes container none empty)

  abbrev year : ℕ
  year = rule_year container

  stricter : StricterSupplies (supply_given year (with container draws none)) (supply_given year (with container draws overlays))
  stricter = record { tables = rw (empty-tables none empty (input_tables container)) (without-less-strict year container overlays ok); draws = refl }

  -- the same table is released
  released-too : (table : Table) → (evaluation year (with container draws overlays)).outcome ≡ release table
      → (evaluation year (with container draws none)).outcome ≡ release table
  unfolding evaluation
  released-too table o = less-strict-releases (plan_of container) (supply_given year b) (supply_given year a) stricter table o

pub released-without : ReleasedWithout
unfolding run_outcome
released-without container draws overlays none empty lent rows columns bytes e =
    let a = with container draws overlays in
    let b = with container draws none in
    let year = rule_year container in
    let r = release-means year a lent rows columns bytes refl e in
    let ok = r.begun.accepted-is in
    let same : (evaluation year b).outcome ≡ (evaluation year a).outcome = released-too container draws overlays none empty ok r.table r.outcome ∙ sym r.outcome in
    let outcome : run_outcome year b lent ≡ run_outcome year a lent = ap (with_text (length (plan_of container)) (length lent.text)) same in
    let run-b = begun-run year b lent (record { long = r.begun.long; accepted-is = without-ok container draws overlays none empty ok; year-is = refl }) in
    let run-a = begun-run year a lent r.begun in (
      ap (λ (run : Run). run.answer) run-b ∙ ap answer_of outcome ∙ sym (ap (λ (run : Run). run.answer) run-a) ∙ e,
      ap (λ (run : Run). run.left.output) run-b ∙ ap (λ (o : Outcome). written (rows_out o) lent.output) outcome ∙ sym (ap (λ (run : Run). run.left.output) run-a),
      ap (λ (run : Run). run.left.text) run-b ∙ ap (λ (o : Outcome). written (text_out o) lent.text) outcome ∙ sym (ap (λ (run : Run). run.left.text) run-a),
    )

-- ---- labels of zero

zero-cells : (part : List ℕ) (cell : ℕ) (cells : List Cell) → ((cell : ℕ) → label_in part cell ≡ 0) → Each FormedCell cells → overlaid_cells part cell cells ≡ cells
zero-cells part cell [] z f = refl
zero-cells part cell (next ∷ rest) z f =
    let l = ap (composed next.label) (z cell) ∙ (compose-clear next.label f.0).0 in
    ap₂ ◌∷◌ (λ i. record { value = next.value; label = l i }) (zero-cells part (suc cell) rest z f.1)

zero-table : (part p : List ℕ) (table : InputTable) → ((cell : ℕ) → label_in part cell ≡ 0) → Whole p table → overlaid part table ≡ table
unfolding overlaid
zero-table part p table z w =
    let c = zero-cells part 0 table.cells z w.formed in
    λ i. record { columns = table.columns; sheets = table.sheets; rows = table.rows; cells = c i }

zero-tables : (container overlay : List ℕ) (index : ℕ) (tables : List InputTable) → ((i : ℕ) → i < length tables → (cell : ℕ) → label_in (part_of overlay (index + i)) cell ≡ 0)
    → Wholes container (suc index) tables → overlaid_from overlay index tables ≡ tables
zero-tables container overlay index [] z w = refl
zero-tables container overlay index (table ∷ rest) z w =
    ap₂ ◌∷◌ (zero-table (part_of overlay index) (part_of container (suc index)) table (λ cell. rw (add-zero index) at (z 0 (omega arith) cell)) w.0)
    (zero-tables container overlay (suc index) rest (λ i h cell. rw (add-suc index i ∙ sym (suc-add index i)) at (z (suc i) (omega arith) cell)) w.1)

with_append : (before after : List (List ℕ)) (tables : List InputTable) → with_overlays (before ++ after) tables ≡ with_overlays after (with_overlays before tables)
with_append [] after tables = refl
with_append (overlay ∷ rest) after tables = with_append rest after (with_overlay overlay tables)

split-checks : (container : List ℕ) (before after : List (List ℕ)) → check_overlays container (before ++ after) ≡ accepted
    → (check_overlays container before ≡ accepted) × (check_overlays container after ≡ accepted)
split-checks container [] after e = (refl, e)
split-checks container (overlay ∷ rest) after e =
    let b = both (check_overlay container overlay) _ e in
    let s = split-checks container rest after b.1 in
    (rw b.0 s.0, s.1)

joined-checks : (container : List ℕ) (before after : List (List ℕ)) → check_overlays container before ≡ accepted → check_overlays container after ≡ accepted
    → check_overlays container (before ++ after) ≡ accepted
joined-checks container [] after e f = f
joined-checks container (overlay ∷ rest) after e f =
    let b = both (check_overlay container overlay) _ e in
    rw b.0 (joined-checks container rest after b.1 f)

-- composed onto tables of an accepted container, it leaves them as they are
zero_same : (container overlay : List ℕ) → ZeroLabels overlay → check_overlay container overlay ≡ accepted → (tables : List InputTable) → Ready container tables
    → with_overlay overlay tables ≡ tables
zero_same container overlay z e tables r = go (eqb (length overlay) 0) refl
  where
    go : (empty : Bool) → eqb (length overlay) 0 ≡ empty → cond empty tables (overlaid_from overlay 0 tables) ≡ tables
    go true f = refl
    go false f =
        let p = overlay-passed container overlay f e in
        zero-tables container overlay 0 tables (λ i h cell. rw (zero-add i) (z i (omega (arith, h, p.counted, r.as_many)) cell)) r.wholes

empty-passes-one : (container : List ℕ) (after : List (List ℕ)) → check_overlays container after ≡ accepted → check_overlays container ([] ∷ after) ≡ accepted
unfolding check_overlay
empty-passes-one container after e = e

pub zero-changes-nothing : ZeroChangesNothing
zero-changes-nothing container draws before after overlay z ok =
    let inputs = input_tables container in
    let checks = container-accepted container (before ++ (overlay ∷ after)) ok in
    let parts = split-checks container before (overlay ∷ after) (overlays-accepted container (before ++ (overlay ∷ after)) ok) in
    let these = both (check_overlay container overlay) (check_overlays container after) parts.1 in
    let ready = (with_all container before parts.0 inputs (tables-ready container checks)).1 in
    let tables : with_overlays (before ++ (overlay ∷ after)) inputs ≡ with_overlays (before ++ ([] ∷ after)) inputs
    = with_append before (overlay ∷ after) inputs ∙ ap (with_overlays after) (zero_same container overlay z these.0 (with_overlays before inputs) ready)
    ∙ sym (with_append before ([] ∷ after) inputs) in
    same-run container draws (before ++ (overlay ∷ after)) (before ++ ([] ∷ after)) tables ok
    (accepted-with container (before ++ ([] ∷ after)) checks (joined-checks container before ([] ∷ after) parts.0 (empty-passes-one container after these.1)))

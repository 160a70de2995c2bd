-- Of the same tables under stricter labels a step makes the same table under stricter labels. Assumes nothing.
use Prim.Native.Nat.{ℕ, zero, suc, ◌+◌, ◌-◌}
use mathlib.Core.Path.{◌≡◌, refl, ap, ap₂}
use mathlib.Core.Bool.{◌||◌}
use mathlib.Core.List.{List, map}
use lib.IntN.{ℤ}
use lib.ListN.{get_or, drop}
use Rattle.label_composition.specs.Composition.{composed}
use Rattle.label_discharge.specs.Discharge.{after_t, after_a, after_n}
use Rattle.label_laws.proofs.Laws.{compose-well-formed, after-T-well-formed, after-A-well-formed, after-N-well-formed}
use Rattle.label_laws.proofs.OrderProof.{composed-monotone, discharge-monotone}
use Rattle.plan.specs.Apply.{transform_value, applied_row, applied}
use Rattle.plan.specs.Filter.{holds, filtered}
use Rattle.plan.specs.Group.{same_keys, any_same, groups_after, distinct, group_size, aggregate_value, composed_after, group_row, grouped}
use Rattle.plan.specs.Join.{matches, joined_to, joined_rows, joined}
use Rattle.plan.specs.Keep.{kept_cells, kept_row, kept}
use Rattle.plan.specs.Masks.{in_mask}
use Rattle.plan.specs.Noise.{noisy_cell, noisy_rows, with_noise}
use Rattle.plan.specs.Numbers.{transform_code, digits_taken, aggregate_code}
use Rattle.plan.specs.Operands.{operand_value}
use Rattle.plan.specs.Scan.{scanned}
use Rattle.plan.specs.Secrecy.{Pairwise, none, more}
use Rattle.plan.specs.Steps.{make}
use Rattle.plan.specs.Supply.{Supply}
use Rattle.plan.specs.Table.{Cell, Row, Table, blank, no_table, cell_at, top}
use Rattle.plan.specs.Union.{united}
use Rattle.plan.specs.declared.Aggregate.{Aggregate}
use Rattle.plan.specs.declared.Operand.{Operand}
use Rattle.plan.specs.declared.Operand.TheVariants.{Constant, Column}
use Rattle.plan.specs.declared.Step.{Step}
use Rattle.plan.specs.declared.Step.TheVariants.{Scan, Union, Join, Filter, Keep, Apply, Group, Noise}
use Rattle.plan.specs.declared.Transform.{Transform}
use Rattle.plan.specs.declared.Transform.TheVariants.{Add, Sub, Cut, Band}
use Rattle.plan.proofs.AlikeFilter.{both-pass}
use Rattle.plan.proofs.LockedLaws.{transform-code-lt, aggregate-code-lt}
use Rattle.plan.proofs.Pairs.{both-append, both-take, both-drop, both-get, both_cond, both-map, maps-same}
use Rattle.strictness.specs.Strictness.{StricterLabels, StricterCells, StricterRows, StricterTables, StricterSupplies}
use Rattle.strictness.proofs.Checks.{clear-labels}

-- ---- labels

after-T : (transform : Transform) {a b : ℕ} → StricterLabels a b
    → StricterLabels (after_t a (transform_code transform) (digits_taken transform)) (after_t b (transform_code transform) (digits_taken transform))
after-T transform {a} {b} l = record {
  well-formed = after-T-well-formed a _ _ l.well-formed;
  strict = (discharge-monotone a b l.strict).0 _ _ (transform-code-lt transform);
}

after-N : {a b : ℕ} → StricterLabels a b → StricterLabels (after_n a) (after_n b)
after-N {a} {b} l = record { well-formed = after-N-well-formed a l.well-formed; strict = (discharge-monotone a b l.strict).2 }

-- of a group each label is discharged and then composed
composed-after : (aggregate : Aggregate) (sheets : ℕ) {a b : ℕ} → StricterLabels a b → {xs ys : List ℕ} → Pairwise StricterLabels xs ys
    → StricterLabels (composed_after (aggregate_code aggregate) sheets a xs) (composed_after (aggregate_code aggregate) sheets b ys)
composed-after aggregate sheets l none = l
composed-after aggregate sheets {a} {b} l (more {x} {y} m p) =
    composed-after aggregate sheets {a = composed a (after_a x (aggregate_code aggregate) sheets)} {b = composed b (after_a y (aggregate_code aggregate) sheets)} record {
      well-formed = compose-well-formed a _ l.well-formed (after-A-well-formed x _ sheets m.well-formed);
      strict = composed-monotone a _ b _ l.strict ((discharge-monotone x y m.strict).1 _ sheets (aggregate-code-lt aggregate));
    } p

-- ---- rows

abbrev Cells : List Cell → List Cell → Type 0
Cells = Pairwise StricterCells

abbrev Rows : List Row → List Row → Type 0
Rows = Pairwise StricterRows

pub labels-in : {xs ys : List Cell} → Cells xs ys → Pairwise StricterLabels (map (λ cell. cell.label) xs) (map (λ cell. cell.label) ys)
labels-in = both-map (λ cell. cell.label) (λ cell. cell.label) (λ x y c. c.labels)

cell-at : (column : ℕ) {a b : Row} → StricterRows a b → StricterCells (cell_at column a) (cell_at column b)
cell-at column r = both-get column blank (record { value = refl; labels = clear-labels }) r.cells

operand_same : (operand : Operand) {a b : Row} → StricterRows a b → operand_value operand a ≡ operand_value operand b
operand_same (Constant value) r = refl
operand_same (Column column) r = (cell-at column r).value

-- JOIN
module _ (a b : ℕ) where
  joined-to : {l m : Row} → StricterRows l m → {xs ys : List Row} → Rows xs ys → Rows (joined_to a b l xs) (joined_to a b m ys)
  joined-to t none = none
  joined-to {l} {m} t (more {x} {y} r p) =
      let rest = joined-to t p in
      let cells = both-append t.cells (both-append (both-take b r.cells) (both-drop (suc b) r.cells)) in
      both_cond (matches a b l x) (matches a b m y) (rw ((cell-at a t).value, (cell-at b r).value))
      (more record { cells = cells; mark = t.mark } rest) rest

  joined-rows : {ls ms : List Row} → Rows ls ms → {xs ys : List Row} → Rows xs ys → Rows (joined_rows a b ls xs) (joined_rows a b ms ys)
  joined-rows none q = none
  joined-rows (more t p) q = both-append (joined-to t q) (joined-rows p q)

-- KEEP
kept-cells : (mask columns : ℕ) {a b : Row} → StricterRows a b → Cells (kept_cells mask columns a) (kept_cells mask columns b)
kept-cells mask zero r = none
kept-cells mask (suc column) r =
    both-append (kept-cells mask column r) (both_cond (in_mask mask column) (in_mask mask column) refl (more (cell-at column r) none) none)

kept-row : (mask columns : ℕ) (a b : Row) → StricterRows a b → StricterRows (kept_row mask columns a) (kept_row mask columns b)
kept-row mask columns a b r = record { cells = kept-cells mask columns r; mark = r.mark }

-- APPLY
result-same : (transform : Transform) {v w : ℤ} {a b : Row} → v ≡ w → StricterRows a b → transform_value transform v a ≡ transform_value transform w b
result-same (Add operand) e r = rw (e, operand_same operand r)
result-same (Sub operand) e r = rw (e, operand_same operand r)
result-same (Cut digits) e r = rw e
result-same (Band width) e r = rw e

applied-row : (column : ℕ) (transform : Transform) (a b : Row) → StricterRows a b
    → StricterRows (applied_row column transform a) (applied_row column transform b)
applied-row column transform a b r =
    let c = cell-at column r in
    record {
      cells = both-append r.cells (more record { value = result-same transform c.value r; labels = after-T transform c.labels } none);
      mark = r.mark;
    }

-- NOISE
noisy-cell : (draw : ℤ) {x y : Cell} → StricterCells x y → StricterCells (noisy_cell x draw) (noisy_cell y draw)
noisy-cell draw c = record { value = rw c.value; labels = after-N c.labels }

noisy-rows : (column : ℕ) (draws : List ℤ) {xs ys : List Row} → Rows xs ys → Rows (noisy_rows column draws xs) (noisy_rows column draws ys)
noisy-rows column draws none = none
noisy-rows column draws (more r p) =
    more record { cells = both-append r.cells (more (noisy-cell _ (cell-at column r)) none); mark = r.mark } (noisy-rows column (drop 1 draws) p)

-- GROUP
module _ (keys : ℕ) where
  same-keys : (columns : ℕ) {a b c d : Row} → StricterRows a b → StricterRows c d → same_keys keys columns a c ≡ same_keys keys columns b d
  same-keys zero r s = refl
  same-keys (suc n) r s = rw (same-keys n r s, (cell-at n r).value, (cell-at n s).value)

  module _ (columns : ℕ) where
    any-same : {a b : Row} → StricterRows a b → {xs ys : List Row} → Rows xs ys → any_same keys columns a xs ≡ any_same keys columns b ys
    any-same r none = refl
    any-same r (more s p) = ap₂ ◌||◌ (same-keys columns s r) (any-same r p)

    groups : {es fs : List Row} → Rows es fs → {xs ys : List Row} → Rows xs ys
        → Pairwise Rows (groups_after keys columns es xs) (groups_after keys columns fs ys)
    groups e none = none
    groups {es} {fs} e (more {x} {y} r p) =
        let group = both-pass StricterRows (same_keys keys columns x) (same_keys keys columns y) (λ u v s. same-keys columns r s) p in
        both-append (both_cond (any_same keys columns x es) (any_same keys columns y fs) (any-same r e) none (more (more r group) none))
        (groups (both-append e (more r none)) p)

    sheets-same : {g h : List Row} → Rows g h → group_size g ≡ group_size h
    unfolding group_size
    sheets-same p = ap distinct (maps-same (λ row. row.mark) (λ x y r. r.mark) p)

    group-row : (aggregate : Aggregate) (column : ℕ) (g h : List Row) → Rows g h
        → StricterRows (group_row keys columns aggregate column g) (group_row keys columns aggregate column h)
    group-row aggregate column g h none = record { cells = none; mark = refl }
    group-row aggregate column g h (more r p) =
        let cells = both-map {S = StricterCells} (cell_at column) (cell_at column) (λ x y s. cell-at column s) (more r p) in
        record {
          cells = both-append (kept-cells keys columns r) (more record {
            value = ap (aggregate_value aggregate) (maps-same (λ cell. cell.value) (λ x y c. c.value) cells);
            labels = rw (sheets-same (more r p)) (composed-after aggregate (group_size h) clear-labels (labels-in cells));
          } none);
          mark = r.mark;
        }

-- ---- tables

abbrev pub Tables : List Table → List Table → Type 0
Tables = Pairwise StricterTables

pub table_at : (n : ℕ) {ss rs : List Table} → Tables ss rs → StricterTables (get_or ss n no_table) (get_or rs n no_table)
table_at n s = both-get n no_table (record { columns = refl; rows = none }) s

pub make-stricter : (step : Step) {p q : Supply} → StricterSupplies p q → {ss rs : List Table} → Tables ss rs
    → StricterTables (make step p ss) (make step q rs)
unfolding make scanned united joined filtered kept applied grouped with_noise
make-stricter (Scan table) t s = table_at table t.tables
make-stricter Union t s = record { columns = (table_at 1 s).columns; rows = both-append (table_at 1 s).rows (table_at 0 s).rows }
make-stricter (Join left right) t s =
    let l = table_at 1 s in
    let r = table_at 0 s in
    record { columns = ap₂ (λ (i j : ℕ). i + (j - 1)) l.columns r.columns; rows = joined-rows left right l.rows r.rows }
make-stricter (Filter column comparison operand) t s =
    let r = table_at 0 s in
    record {
      columns = r.columns;
      rows = both-pass StricterRows _ _ (λ x y r. ap₂ (holds comparison) (cell-at column r).value (operand_same operand r)) r.rows;
    }
make-stricter (Keep mask) t {ss} {rs} s =
    let r = table_at 0 s in
    record { columns = rw r.columns; rows = rw r.columns (both-map _ _ (kept-row mask (top rs).columns) r.rows) }
make-stricter (Apply column transform) t s =
    let r = table_at 0 s in
    record { columns = rw r.columns; rows = both-map _ _ (applied-row column transform) r.rows }
make-stricter (Group keys aggregate column) t {ss} {rs} s =
    let r = table_at 0 s in
    let columns = (top rs).columns in
    record {
      columns = rw r.columns;
      rows = rw r.columns (both-map _ _ (group-row keys columns aggregate column) (groups keys columns none r.rows));
    }
make-stricter (Noise column) t s =
    let r = table_at 0 s in
    record { columns = rw r.columns; rows = rw t.draws (noisy-rows column _ r.rows) }

-- GROUP of alike tables makes alike tables: the keys are clear, and an aggregate that the plan does not lock comes from cells that it does not
-- lock. Assumes nothing.
use Prim.Native.Nat.{ℕ, zero, suc, ◌+◌}
use mathlib.Core.Path.{◌≡◌, refl, ap, ap₂, sym, ◌∙◌}
use mathlib.Core.Bool.{Bool, true, false, not, ◌&&◌, ◌||◌}
use mathlib.Core.List.{List, ◌∷◌, map}
use lib.ListN.{get_or, get_or-map}
use Rattle.label_composition.specs.Composition.{composed}
use Rattle.label_discharge.specs.Discharge.{allows_aggregate, forbids_a, after_a}
use Rattle.plan.specs.Masks.{in_mask}
use Rattle.plan.specs.Group.{check_group, same_keys, any_same, groups_after, distinct, group_size, aggregate_value, composed_after, group_row, grouped}
use Rattle.plan.specs.Keep.{kept_count}
use Rattle.plan.specs.Locked.{groups_at, any_step, locked}
use Rattle.plan.specs.Numbers.{aggregate_code}
use Rattle.plan.specs.Secrecy.{Pairwise, none, more, AlikeCells, AlikeRows, AlikeMarked}
use Rattle.plan.specs.Table.{Row, Table, blank, cell_at, labels_of, grid}
use Rattle.plan.specs.Verdict.{Verdict, fine, refuse_if, first_row, first_not_clear, not_clear}
use Rattle.plan.specs.declared.Aggregate.{Aggregate}
use Rattle.plan.specs.declared.Step.{Step}
use Rattle.comparison.specs.Comparison.{same}
use Rattle.plan.proofs.Alike.{or-fine, if-fine, Tested, tested, cells-alike, read_same}
use Rattle.plan.proofs.AlikeFilter.{both-pass}
use Rattle.plan.proofs.AlikeKeep.{kept-cells-alike}
use Rattle.plan.proofs.LockedLaws.{composed-left, composed-right, aggregate-locked}
use Rattle.plan.proofs.Pairs.{both-append, both_cond, both-map, maps-same}

either_same : (b p q : Bool) → (b ≡ true → p ≡ q) → (not b || p) ≡ (not b || q)
either_same true p q e = e refl
either_same false p q e = refl

module _ (plan : List Step) (keys column : ℕ) where
  abbrev key_test : ℕ → List ℕ → Verdict
  key_test = first_not_clear (in_mask keys) 31 0

  abbrev free_test : ℕ → List ℕ → Verdict
  free_test row cells = refuse_if (forbids_a (get_or cells column 0)) 32 row column

  -- alike rows whose keys are clear and whose aggregated cell allows an aggregate
  record Ready (a b : Row) : Type 0 where
    keyed : Tested plan key_test a b
    free : forbids_a (cell_at column a).label ≡ false

  ready : {xs ys : List Row} → Pairwise (Tested plan key_test) xs ys → Pairwise (Tested plan free_test) xs ys → Pairwise Ready xs ys
  ready none none = none
  ready (more {x} k p) (more t q) =
      let e = if-fine (forbids_a (get_or (labels_of x) column 0)) 32 t.at column t.nothing in
      more record { keyed = k; free = ap forbids_a (sym (get_or-map (λ cell. cell.label) x.cells column blank)) ∙ e } (ready p q)

  same-keys : (columns : ℕ) {a b c d : Row} → Ready a b → Ready c d → same_keys keys columns a c ≡ same_keys keys columns b d
  same-keys zero r s = refl
  same-keys (suc n) {a} {b} {c} {d} r s =
      ap₂ ◌&&◌ (same-keys n r s)
      (either_same (in_mask keys n) (same (cell_at n a).value (cell_at n c).value) (same (cell_at n b).value (cell_at n d).value)
      (λ w. ap₂ same (read_same plan (in_mask keys) 31 n w r.keyed) (read_same plan (in_mask keys) 31 n w s.keyed)))

  module _ (columns : ℕ) where
    any-same : {a b : Row} → Ready a b → {xs ys : List Row} → Pairwise Ready xs ys → any_same keys columns a xs ≡ any_same keys columns b ys
    any-same r none = refl
    any-same r (more s p) = ap₂ ◌||◌ (same-keys columns s r) (any-same r p)

    groups-alike : {es fs : List Row} → Pairwise Ready es fs → {xs ys : List Row} → Pairwise Ready xs ys
        → Pairwise (Pairwise Ready) (groups_after keys columns es xs) (groups_after keys columns fs ys)
    groups-alike e none = none
    groups-alike {es} {fs} e (more {x} {y} r p) =
        let group = both-pass Ready (same_keys keys columns x) (same_keys keys columns y) (λ u v s. same-keys columns r s) p in
        both-append (both_cond (any_same keys columns x es) (any_same keys columns y fs) (any-same r e) none (more (more r group) none))
        (groups-alike (both-append e (more r none)) p)

  module _ (aggregate : Aggregate) (used : (label : ℕ) → allows_aggregate label (aggregate_code aggregate) ≡ true → any_step (groups_at label) plan ≡ true) where
    -- where the composed label is open, so are the members', and their values are the same
    members-same : (size label : ℕ) {xs ys : List Row} → Pairwise Ready xs ys
        → locked plan (composed_after (aggregate_code aggregate) size label (map (λ cell. cell.label) (map (cell_at column) xs))) ≡ false
        → (locked plan label ≡ false) × (map (λ cell. cell.value) (map (cell_at column) xs) ≡ map (λ cell. cell.value) (map (cell_at column) ys))
    members-same size label none e = (e, refl)
    members-same size label (more {x} r p) e =
        let l = (cell_at column x).label in
        let next = after_a l (aggregate_code aggregate) size in
        let rest = members-same size (composed label next) p e in
        let mine = aggregate-locked plan aggregate l size (used l) r.free (composed-right plan label next rest.0) in
        (composed-left plan label next rest.0, ap₂ ◌∷◌ ((cells-alike plan column r.keyed.alike).values mine) rest.1)

    sheets-same : {g h : List Row} → Pairwise Ready g h → group_size g ≡ group_size h
    unfolding group_size
    sheets-same p = ap distinct (maps-same (λ row. row.mark) (λ x y r. r.keyed.alike.mark) p)

    row-alike : (columns : ℕ) (g h : List Row) → Pairwise Ready g h → AlikeRows plan (group_row keys columns aggregate column g) (group_row keys columns aggregate column h)
    row-alike columns g h none = record { cells = none; mark = refl }
    row-alike columns g h (more r p) =
        let cells = both-map {S = AlikeCells plan} (cell_at column) (cell_at column) (λ x y s. cells-alike plan column s.keyed.alike) (more r p) in
        record {
          cells = both-append (kept-cells-alike plan keys columns r.keyed.alike) (more record {
            labels = ap₂ (λ (size : ℕ) (labels : List ℕ). composed_after (aggregate_code aggregate) size 0 labels) (sheets-same (more r p)) (maps-same (λ cell. cell.label) (λ x y c. c.labels) cells);
            values = λ o. ap (aggregate_value aggregate) (members-same (group_size g) 0 (more r p) o).1;
          } none);
          mark = r.keyed.alike.mark;
        }

    pub group-alike : {a b : Table} → AlikeMarked plan a b → check_group keys column (grid a) ≡ fine → AlikeMarked plan (grouped keys aggregate column a) (grouped keys aggregate column b)
    unfolding check_group grouped
    group-alike {a} {b} t e =
        let h = or-fine (not_clear (in_mask keys) 31 0 (grid a)) (first_row free_test 0 (grid a)) e in
        let rows = ready (tested plan key_test 0 t.rows h.0) (tested plan free_test 0 t.rows h.1) in
        record {
          columns = ap (λ (n : ℕ). kept_count keys n + 1) t.columns;
          rows = rw (← t.columns) (both-map (group_row keys a.columns aggregate column) (group_row keys a.columns aggregate column) (row-alike a.columns) (groups-alike a.columns none rows));
        }

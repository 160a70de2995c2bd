-- Under less strict labels a plan releases what it releases under stricter ones. Assumes nothing.
use Prim.Native.Nat.{ℕ, suc}
use mathlib.Core.Path.{◌≡◌, refl, sym, ap₂, ◌∙◌}
use mathlib.Core.Bool.{true}
use mathlib.Core.List.{List, [], ◌∷◌, map}
use lib.IntN.{ℤ}
use lib.ListN.{length, get_or, drop}
use Rattle.plan.specs.Evaluate.{release, check_release, first_over, evaluate_from, evaluate}
use Rattle.plan.specs.Secrecy.{Pairwise, none, more}
use Rattle.plan.specs.Steps.{takes, check, make, too_many, draws_used, supply_after}
use Rattle.plan.specs.Supply.{Supply}
use Rattle.plan.specs.Table.{Cell, Row, Table, labels_of, grid, top}
use Rattle.plan.specs.Verdict.{fine, first_not_clear, not_clear}
use Rattle.plan.specs.declared.Step.{Step}
use Rattle.plan.proofs.AboutEnding.{released}
use Rattle.plan.proofs.Alike.{or-fine, all-clear}
use Rattle.plan.proofs.Pairs.{same_length, both-drop, both-map}
use Rattle.strictness.specs.Strictness.{StricterCells, StricterRows, StricterTables, StricterSupplies, LessStrictReleases}
use Rattle.strictness.proofs.Checks.{Grids, clear-too, check-spares}
use Rattle.strictness.proofs.Made.{labels-in, Tables, table_at, make-stricter}

-- ---- the release: where the stricter labels are clear, the tables are equal

cells-equal : {xs ys : List Cell} → Pairwise StricterCells xs ys → ((i : ℕ) → get_or (map (λ cell. cell.label) ys) i 0 ≡ 0) → xs ≡ ys
cells-equal none clear = refl
cells-equal (more {x} {y} c p) clear =
    let v = c.value in
    let l = clear-too c.labels (clear 0) ∙ sym (clear 0) in
    ap₂ ◌∷◌ (λ i. record { value = v i; label = l i }) (cells-equal p (λ n. clear (suc n)))

rows-equal : (row : ℕ) {xs ys : List Row} → Pairwise StricterRows xs ys → not_clear (λ column. true) 35 row (map labels_of ys) ≡ fine → xs ≡ ys
rows-equal row none e = refl
rows-equal row (more {y} r p) e =
    let h = or-fine (first_not_clear (λ column. true) 35 0 row (labels_of y)) _ e in
    let c = cells-equal r.cells (λ i. all-clear (λ column. true) 35 0 row (labels_of y) h.0 i refl) in
    let m = r.mark in
    ap₂ ◌∷◌ (λ i. record { cells = c i; mark = m i }) (rows-equal (suc row) p h.1)

tables-equal : {a b : Table} → StricterTables a b → check_release b ≡ fine → a ≡ b
unfolding check_release
tables-equal {a} {b} t e =
    let r = rows-equal 0 t.rows (or-fine (not_clear (λ column. true) 35 0 (grid b)) (first_over 0 b.rows) e).0 in
    let c = t.columns in
    λ i. record { columns = c i; rows = r i }

-- ---- the steps

grids : {ss rs : List Table} → Tables ss rs → Pairwise Grids (map grid ss) (map grid rs)
grids s = both-map grid grid (λ a b t. both-map labels_of labels_of (λ x y r. labels-in r.cells) t.rows) s

-- 34 goes by the number of rows
same-limit : (step : Step) {a b : Table} → StricterTables a b → too_many step a ≡ too_many step b
unfolding too_many
same-limit step t = rw (same_length t.rows)

-- the tables on top have equally many rows, so equally many draws are left
after-stricter : (step : Step) {p q : Supply} → StricterSupplies p q → {ss rs : List Table} → Tables ss rs
    → StricterSupplies (supply_after step ss p) (supply_after step rs q)
after-stricter step t s = record {
  tables = t.tables;
  draws = ap₂ (λ (n : ℕ) (draws : List ℤ). drop (draws_used step n) draws) (same_length (table_at 0 s).rows) t.draws;
}

-- from a step on, with what is left of both supplies
releases-from : (plan : List Step) {p q : Supply} → StricterSupplies p q → (step : ℕ) {ss rs : List Table} → Tables ss rs
    → (table : Table) → (evaluate_from q step rs plan).outcome ≡ release table → (evaluate_from p step ss plan).outcome ≡ release table
unfolding evaluate_from
releases-from [] t step {ss} {rs} s table e = rw (tables-equal (table_at 0 s) (released (check_release (top rs)) step _ table e).0) e
releases-from (next ∷ later) {p} {q} t step {ss} {rs} s table e =
    let c = released (check next (length q.draws) (map grid rs)) step _ table e in
    let m = released (too_many next (make next q rs)) step _ table c.1 in
    let made = make-stricter next t s in
    let spared : check next (length p.draws) (map grid ss) ≡ fine = rw t.draws (check-spares next (length q.draws) (grids s) c.0) in
    rw (spared, same-limit next made, m.0)
    (releases-from later (after-stricter next t s) (suc step) (more made (both-drop (takes next) s)) table m.1)

pub less-strict-releases : LessStrictReleases
unfolding evaluate
less-strict-releases plan a b t table e = releases-from plan t 0 none table e

-- Demand 3 of the evaluation: two alike inputs have one evaluation. Assumes nothing.
use Prim.Native.Nat.{ℕ, suc}
use mathlib.Core.Path.{◌≡◌, refl, ap, ap₂, ◌∙◌}
use mathlib.Core.Bool.{Bool, true}
use mathlib.Core.List.{List, [], ◌∷◌, map}
use lib.IntN.{ℤ}
use lib.ListN.{length, get_or, drop, get_or-map}
use Rattle.plan.specs.Evaluate.{Result, release, ending, behind, check_release, evaluate_from, evaluate, first_over}
use Rattle.plan.specs.Locked.{applies_at, groups_at, any_step}
use Rattle.plan.specs.Scan.{scanned}
use Rattle.plan.specs.Numbers.{is_noise}
use Rattle.plan.specs.Secrecy.{Pairwise, none, more, AlikeCells, AlikeMarked, AlikeSupplies, Secrecy}
use Rattle.plan.specs.Steps.{takes, check, make, too_many, draws_used, supply_after}
use Rattle.plan.specs.Supply.{Supply}
use Rattle.plan.specs.Table.{Cell, Row, Table, no_table, labels_of, grid, top}
use Rattle.plan.specs.Trace.{line_of}
use Rattle.plan.specs.Union.{united}
use Rattle.plan.specs.Verdict.{Verdict, fine, refused, or_else, not_clear, first_not_clear}
use Rattle.plan.specs.declared.Step.{Step}
use Rattle.plan.specs.declared.Step.TheVariants.{Scan, Union, Join, Filter, Keep, Apply, Group, Noise}
use Rattle.plan.proofs.Alike.{or-fine, Tested, tested, all-clear, same-grid}
use Rattle.plan.proofs.AlikeApply.{apply-alike}
use Rattle.plan.proofs.AlikeFilter.{filter_alike}
use Rattle.plan.proofs.AlikeGroup.{group-alike}
use Rattle.plan.proofs.AlikeJoin.{join-alike}
use Rattle.plan.proofs.AlikeKeep.{keep-alike}
use Rattle.plan.proofs.AlikeNoise.{noise-alike}
use Rattle.plan.proofs.Bools.{or_left, or_right}
use Rattle.plan.proofs.LockedLaws.{clear-open}
use Rattle.plan.proofs.Pairs.{same_length, both-append, both-drop, both-get, maps-same}

module _ (plan : List Step) where
  no-table-alike : AlikeMarked plan no_table no_table
  no-table-alike = record { columns = refl; rows = none }

  abbrev Stacks : List Table → List Table → Type 0
  Stacks = Pairwise (AlikeMarked plan)

  at_place : (n : ℕ) {ss rs : List Table} → Stacks ss rs → AlikeMarked plan (get_or ss n no_table) (get_or rs n no_table)
  at_place n s = both-get n no_table no-table-alike s

  -- the labels that a check is handed are those of the tables
  grid-at : (n : ℕ) (stack : List Table) → get_or (map grid stack) n [] ≡ grid (get_or stack n no_table)
  grid-at n stack = get_or-map grid stack n no_table

  -- where a step is not refused, it makes alike tables
  make-alike : (step : Step) → ((test : Step → Bool) → test step ≡ true → any_step test plan ≡ true) → (p q : Supply) → AlikeSupplies plan p q
      → (ss rs : List Table) → Stacks ss rs → check step (length p.draws) (map grid ss) ≡ fine → AlikeMarked plan (make step p ss) (make step q rs)
  unfolding make check scanned united
  make-alike (Scan table) mine p q t ss rs s e = at_place table t.tables
  make-alike Union mine p q t ss rs s e = record { columns = (at_place 1 s).columns; rows = both-append (at_place 1 s).rows (at_place 0 s).rows }
  make-alike (Join left right) mine p q t ss rs s e = join-alike plan left right (at_place 1 s) (at_place 0 s) (rw (grid-at 1 ss, grid-at 0 ss) at e)
  make-alike (Filter column comparison operand) mine p q t ss rs s e = filter_alike plan column operand comparison (at_place 0 s) (rw (grid-at 0 ss) at e)
  make-alike (Keep mask) mine p q t ss rs s e = keep-alike plan mask (at_place 0 s)
  make-alike (Apply column transform) mine p q t ss rs s e =
      apply-alike plan column transform (λ label. mine (applies_at label)) (at_place 0 s) (rw (grid-at 0 ss) at e)
  make-alike (Group keys aggregate column) mine p q t ss rs s e =
      group-alike plan keys column aggregate (λ label. mine (groups_at label)) (at_place 0 s) (rw (grid-at 0 ss) at e)
  make-alike (Noise column) mine p q t ss rs s e =
      rw (← t.draws) (noise-alike plan column (length p.draws) (mine is_noise refl) p.draws (at_place 0 s) (rw (grid-at 0 ss) at e))

  -- and leaves alike supplies: the tables on top have equally many rows
  after-alike : (step : Step) (p q : Supply) → AlikeSupplies plan p q → (ss rs : List Table) → Stacks ss rs → AlikeSupplies plan (supply_after step ss p) (supply_after step rs q)
  after-alike step p q t ss rs s = record {
    tables = t.tables;
    draws = ap₂ (λ (n : ℕ) (draws : List ℤ). drop (draws_used step n) draws) (same_length (at_place 0 s).rows) t.draws;
  }

  -- alike tables have the same figures
  same_line : (step : Step) (a b : Table) → AlikeMarked plan a b → line_of step a ≡ line_of step b
  unfolding line_of
  same_line step a b t = cc (same_length t.rows, t.columns, same-grid plan t)

  same-limit : (step : Step) (a b : Table) → AlikeMarked plan a b → too_many step a ≡ too_many step b
  unfolding too_many
  same-limit step a b t = rw (same_length t.rows)

  -- alike cells that are clear are equal
  cells-equal : {xs ys : List Cell} → Pairwise (AlikeCells plan) xs ys → ((i : ℕ) → get_or (map (λ cell. cell.label) xs) i 0 ≡ 0) → xs ≡ ys
  cells-equal none clear = refl
  cells-equal (more {x} {y} c p) clear =
      let v : x.value ≡ y.value = c.values (rw (clear 0) (clear-open plan)) in
      let l = c.labels in
      ap₂ ◌∷◌ (λ i. record { value = v i; label = l i }) (cells-equal p (λ n. clear (suc n)))

  abbrev clear_test : ℕ → List ℕ → Verdict
  clear_test = first_not_clear (λ column. true) 35 0

  rows-equal : {xs ys : List Row} → Pairwise (Tested plan clear_test) xs ys → xs ≡ ys
  rows-equal none = refl
  rows-equal (more {x} t p) =
      let e = cells-equal t.alike.cells (λ i. all-clear (λ column. true) 35 0 t.at (labels_of x) t.nothing i refl) in
      let m = t.alike.mark in
      ap₂ ◌∷◌ (λ i. record { cells = e i; mark = m i }) (rows-equal p)

  same-ending : (v : Verdict) (step : ℕ) (x y : Result) → (v ≡ fine → x ≡ y) → ending v step x ≡ ending v step y
  same-ending fine step x y f = f refl
  same-ending (refused number row column) step x y f = refl

  ending-both : (v w : Verdict) (step : ℕ) (x y : Result) → v ≡ w → (v ≡ fine → x ≡ y) → ending v step x ≡ ending w step y
  ending-both v w step x y e f = same-ending v step x y f ∙ ap (λ (u : Verdict). ending u step y) e

  same_or : (v u w : Verdict) → (v ≡ fine → u ≡ w) → or_else v u ≡ or_else v w
  same_or fine u w f = f refl
  same_or (refused number row column) u w f = refl

  -- where every label is clear, alike tables are equal; so the release is the same, and so are 35 and 36
  tables-equal : (a b : Table) → AlikeMarked plan a b → not_clear (λ column. true) 35 0 (grid a) ≡ fine → a ≡ b
  tables-equal a b t e =
      let r = rows-equal (tested plan clear_test 0 t.rows e) in
      let c = t.columns in
      λ i. record { columns = c i; rows = r i }

  release-same : (step : ℕ) (a b : Table) → AlikeMarked plan a b
      → ending (check_release a) step (record { outcome = release a; trace = [] }) ≡ ending (check_release b) step (record { outcome = release b; trace = [] })
  unfolding check_release
  release-same step a b t =
      let g = not_clear (λ column. true) 35 0 (grid a) in
      let table : g ≡ fine → a ≡ b = tables-equal a b t in
      ending-both (or_else g (first_over 0 a.rows)) _ step _ _
      (same_or g (first_over 0 a.rows) (first_over 0 b.rows) (λ e. ap (λ (x : Table). first_over 0 x.rows) (table e)) ∙ ap (λ (l : List (List ℕ)). or_else (not_clear (λ column. true) 35 0 l) (first_over 0 b.rows)) (same-grid plan t))
      (λ e. ap (λ (x : Table). record { outcome = release x; trace = [] }) (table (or-fine g (first_over 0 a.rows) e).0))

  same_from : (p q : Supply) → AlikeSupplies plan p q → (step : ℕ) (ss rs : List Table) → Stacks ss rs
      → (later : List Step) → ((test : Step → Bool) → any_step test later ≡ true → any_step test plan ≡ true)
      → evaluate_from p step ss later ≡ evaluate_from q step rs later
  unfolding evaluate_from
  same_from p q t step ss rs s [] mine = release-same step (top ss) (top rs) (at_place 0 s)
  same_from p q t step ss rs s (next ∷ later) mine =
      let grids : map grid ss ≡ map grid rs = maps-same grid (λ x y u. same-grid plan u) s in
      let left : length p.draws ≡ length q.draws = ap length t.draws in
      ending-both (check next (length p.draws) (map grid ss)) (check next (length q.draws) (map grid rs)) step _ _ (ap₂ (check next) left grids) (λ e.
      let made = make-alike next (λ test f. mine test (or_left (test next) (any_step test later) f)) p q t ss rs s e in
      ending-both (too_many next (make next p ss)) (too_many next (make next q rs)) step _ _ (same-limit next _ _ made) (λ _.
      ap₂ behind (same_line next _ _ made)
      (same_from (supply_after next ss p) (supply_after next rs q) (after-alike next p q t ss rs s) (suc step) _ _ (more made (both-drop (takes next) s)) later (λ test f. mine test (or_right (test next) (any_step test later) f)))))

pub secrecy : Secrecy
unfolding evaluate
secrecy plan a b t = same_from plan a b t 0 [] [] none plan (λ test e. e)

-- The shape of what a step makes: rows of the table's width, the columns that the plan's check counts, and at most 256 rows. Assumes nothing.
use Prim.Native.Nat.{ℕ, suc, ◌+◌, ◌-◌, ◌≤◌, ◌<◌}
use mathlib.Core.Path.{◌≡◌, refl, sym, ap, ap₂, ◌∙◌}
use mathlib.Core.Bool.{Bool, true, false, cond, ◌&&◌}
use mathlib.Core.List.{List, [], ◌∷◌, ◌++◌, map}
use native.Mathlib.Nat.{le_refl, le_trans}
use native.Mathlib.Omega.{arith}
use lib.Dec.{ltb}
use lib.IntN.{ℤ}
use lib.ListN.{length, get_or, take, drop, length-append, length-take, length-drop, length-map, get_or-map}
use borrow.Author.Tests.{ltb-true, ltb-false, eqb-true}
use Rattle.plan.specs.Apply.{applied_row, applied}
use Rattle.plan.specs.Filter.{passing, filtered}
use Rattle.plan.specs.Group.{groups_after, group_row, grouped, any_same, same_keys}
use Rattle.plan.specs.Join.{matches, joined_row, joined_to, joined_rows, joined}
use Rattle.plan.specs.Keep.{kept_count, kept_cells, kept_row, kept}
use Rattle.plan.specs.Noise.{noisy_rows, with_noise}
use Rattle.plan.specs.Scan.{scanned}
use Rattle.plan.specs.Sense.{MadeShaped, Small, MadeSmall}
use Rattle.plan.specs.Steps.{make, grows, too_many}
use Rattle.plan.specs.Table.{Cell, Row, Table, no_table, top, second, Each, Shaped}
use Rattle.plan.specs.Union.{united}
use Rattle.plan.specs.Verdict.{fine}
use Rattle.plan.specs.Widths.{columns_exist, made_columns}
use Rattle.plan.specs.declared.Aggregate.{Aggregate}
use Rattle.plan.specs.declared.Step.{Step}
use Rattle.plan.specs.declared.Step.TheVariants.{Scan, Union, Join, Filter, Keep, Apply, Group, Noise}
use Rattle.plan.proofs.Alike.{if-fine}
use Rattle.plan.proofs.Bools.{and-true}
pub use Rattle.plan.proofs.SenseEach.{each_append, each-get, each-cond, each_map}
pub use Rattle.plan.proofs.SenseKeep.{kept-length}

each-pass : (P : Row → Type 0) (pass : Row → Bool) (rows : List Row) → Each P rows → Each P (passing pass rows)
each-pass P pass [] p = tt
each-pass P pass (row ∷ rest) p = each-cond P (pass row) (row ∷ passing pass rest) (passing pass rest) (p.0, each-pass P pass rest p.1) (each-pass P pass rest p.1)

-- ---- widths

abbrev Wide : ℕ → Row → Type 0
Wide columns row = length row.cells ≡ columns

-- a row without one of its columns is one cell shorter
without-length : (b : ℕ) (cells : List Cell) → b < length cells → length (take b cells ++ drop (suc b) cells) ≡ length cells - 1
without-length b cells h = simp (length-append, length-take, length-drop) (omega arith)

module _ (a b n m : ℕ) (h : b < m) where
  joined-to-wide : (left : Row) → Wide n left → (rights : List Row) → Each (Wide m) rights → Each (Wide (n + (m - 1))) (joined_to a b left rights)
  joined-to-wide left l [] r = tt
  joined-to-wide left l (right ∷ rest) r =
      let more = joined-to-wide left l rest r.1 in
      let wide : length (left.cells ++ (take b right.cells ++ drop (suc b) right.cells)) ≡ n + (m - 1)
      = length-append left.cells _ ∙ ap₂ ◌+◌ l (without-length b right.cells (rw r.0 h) ∙ ap (λ (k : ℕ). k - 1) r.0) in
      each-cond (Wide (n + (m - 1))) (matches a b left right) (joined_row b left right ∷ joined_to a b left rest) (joined_to a b left rest) (wide, more) more

  joined-wide : (lefts rights : List Row) → Each (Wide n) lefts → Each (Wide m) rights → Each (Wide (n + (m - 1))) (joined_rows a b lefts rights)
  joined-wide [] rights l r = tt
  joined-wide (left ∷ rest) rights l r =
      each_append (Wide (n + (m - 1))) (joined_to a b left rights) (joined_rows a b rest rights) (joined-to-wide left l.0 rights r) (joined-wide rest rights l.1 r)

abbrev NonEmpty : List Row → Type 0
NonEmpty group = 0 < length group

pub groups-nonempty : (keys columns : ℕ) (earlier rows : List Row) → Each NonEmpty (groups_after keys columns earlier rows)
groups-nonempty keys columns earlier [] = tt
groups-nonempty keys columns earlier (row ∷ rest) =
    each_append NonEmpty (cond (any_same keys columns row earlier) [] ((row ∷ passing (same_keys keys columns row) rest) ∷ [])) _
    (each-cond NonEmpty (any_same keys columns row earlier) [] _ tt (omega arith, tt)) (groups-nonempty keys columns (earlier ++ (row ∷ [])) rest)

group-wide : (keys columns : ℕ) (aggregate : Aggregate) (column : ℕ) (group : List Row) → NonEmpty group → Wide (kept_count keys columns + 1) (group_row keys columns aggregate column group)
group-wide keys columns aggregate column [] h = absurd (omega arith)
group-wide keys columns aggregate column (first ∷ rest) h =
    length-append (kept_cells keys columns first) _ ∙ ap (λ (n : ℕ). n + 1) (kept-length keys columns first)

pub noisy-wide : (column columns : ℕ) (draws : List ℤ) (rows : List Row) → Each (Wide columns) rows → Each (Wide (columns + 1)) (noisy_rows column draws rows)
noisy-wide column columns draws [] w = tt
noisy-wide column columns draws (row ∷ rest) w = (length-append row.cells _ ∙ ap (λ (n : ℕ). n + 1) w.0, noisy-wide column columns (drop 1 draws) rest w.1)

pub noisy-count : (column : ℕ) (draws : List ℤ) (rows : List Row) → length (noisy_rows column draws rows) ≡ length rows
noisy-count column draws [] = refl
noisy-count column draws (row ∷ rest) = ap suc (noisy-count column (drop 1 draws) rest)

no-table : Shaped no_table
no-table = tt

width-at : (n : ℕ) (stack : List Table) → get_or (map (λ table. table.columns) stack) n 0 ≡ (get_or stack n no_table).columns
width-at n stack = get_or-map (λ table. table.columns) stack n no_table

module _ (stack : List Table) (s : Each Shaped stack) where
  shaped-at : (n : ℕ) → Shaped (get_or stack n no_table)
  shaped-at n = each-get Shaped stack n no_table no-table s

pub made_shaped : MadeShaped
unfolding make columns_exist made_columns scanned united joined filtered kept applied grouped with_noise
made_shaped (Scan table) supply stack e t s = (each-get Shaped supply.tables table no_table no-table t, sym (width-at table supply.tables))
made_shaped Union supply stack e t s =
    let same : (top stack).columns ≡ (second stack).columns
    = sym (width-at 0 stack) ∙ sym (eqb-true _ _ e) ∙ width-at 1 stack in
    (each_append (Wide (second stack).columns) (second stack).rows (top stack).rows (shaped-at stack s 1) (rw same at (shaped-at stack s 0)), sym (width-at 1 stack))
made_shaped (Join left right) supply stack e t s =
    let b = ltb-true right _ (and-true (ltb left (get_or (map (λ table. table.columns) stack) 1 0)) _ e).1 in (
      joined-wide left right (second stack).columns (top stack).columns (rw (width-at 0 stack) at b) (second stack).rows (top stack).rows (shaped-at stack s 1) (shaped-at stack s 0),
      rw (width-at 1 stack, width-at 0 stack),
    )
made_shaped (Filter column comparison operand) supply stack e t s = (each-pass (Wide (top stack).columns) _ (top stack).rows (shaped-at stack s 0), sym (width-at 0 stack))
made_shaped (Keep mask) supply stack e t s = (
  each_map (Wide (top stack).columns) (Wide (kept_count mask (top stack).columns)) (kept_row mask (top stack).columns) (λ row w. kept-length mask (top stack).columns row) (top stack).rows (shaped-at stack s 0),
  rw (width-at 0 stack),
)
made_shaped (Apply column transform) supply stack e t s = (
  each_map (Wide (top stack).columns) (Wide ((top stack).columns + 1)) (applied_row column transform) (λ row w. length-append row.cells _ ∙ ap (λ (n : ℕ). n + 1) w) (top stack).rows (shaped-at stack s 0),
  rw (width-at 0 stack),
)
made_shaped (Group keys aggregate column) supply stack e t s = (
  each_map NonEmpty (Wide (kept_count keys (top stack).columns + 1)) (group_row keys (top stack).columns aggregate column) (λ group h. group-wide keys (top stack).columns aggregate column group h)
      (groups_after keys (top stack).columns [] (top stack).rows) (groups-nonempty keys (top stack).columns [] (top stack).rows),
  rw (width-at 0 stack),
)
made_shaped (Noise column) supply stack e t s = (noisy-wide column (top stack).columns supply.draws (top stack).rows (shaped-at stack s 0), rw (width-at 0 stack))

-- ---- rows

pass-fewer : (pass : Row → Bool) (rows : List Row) → length (passing pass rows) ≤ length rows
pass-fewer pass [] = le_refl 0
pass-fewer pass (row ∷ rest) = either (pass row) (pass-fewer pass rest)
  where
    either : (b : Bool) → length (passing pass rest) ≤ length rest → length (cond b (row ∷ passing pass rest) (passing pass rest)) ≤ length (row ∷ rest)
    either true h = omega arith
    either false h = omega arith

pub groups-fewer : (keys columns : ℕ) (earlier rows : List Row) → length (groups_after keys columns earlier rows) ≤ length rows
groups-fewer keys columns earlier [] = le_refl 0
groups-fewer keys columns earlier (row ∷ rest) =
    let more = groups-fewer keys columns (earlier ++ (row ∷ [])) rest in
    simp length-append (omega (arith, one_at_most (any_same keys columns row earlier) (row ∷ passing (same_keys keys columns row) rest)))
  where
    one_at_most : (b : Bool) (group : List Row) → length (cond b [] (group ∷ [])) ≤ 1
    one_at_most true group = omega arith
    one_at_most false group = le_refl 1

-- UNION and JOIN are bounded by 34
grown : (step : Step) (made : Table) → grows step ≡ true → too_many step made ≡ fine → Small made
unfolding too_many
grown step made g e = ltb-false 256 (length made.rows) (rw g at (if-fine (grows step && ltb 256 (length made.rows)) 34 256 0 e))

pub made-small : MadeSmall
unfolding make scanned filtered kept applied grouped with_noise
made-small (Scan table) supply stack t s e = each-get Small supply.tables table no_table (omega arith) t
made-small Union supply stack t s e = grown Union _ refl e
made-small (Join left right) supply stack t s e = grown (Join left right) _ refl e
made-small (Filter column comparison operand) supply stack t s e = le_trans (pass-fewer _ (top stack).rows) (each-get Small stack 0 no_table (omega arith) s)
made-small (Keep mask) supply stack t s e = rw (length-map (top stack).rows (kept_row mask (top stack).columns)) (each-get Small stack 0 no_table (omega arith) s)
made-small (Apply column transform) supply stack t s e = rw (length-map (top stack).rows (applied_row column transform)) (each-get Small stack 0 no_table (omega arith) s)
made-small (Group keys aggregate column) supply stack t s e =
    rw (length-map (groups_after keys (top stack).columns [] (top stack).rows) (group_row keys (top stack).columns aggregate column))
    (le_trans (groups-fewer keys (top stack).columns [] (top stack).rows) (each-get Small stack 0 no_table (omega arith) s))
made-small (Noise column) supply stack t s e = rw (noisy-count column supply.draws (top stack).rows) (each-get Small stack 0 no_table (omega arith) s)

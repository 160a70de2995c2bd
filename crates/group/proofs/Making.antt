-- The rows of groups, written one after the other. Assumes nothing.
use Prim.Native.Nat.{ℕ, zero, suc, ◌+◌, ◌*◌, ◌≤◌, ◌<◌}
use mathlib.Core.Path.{◌≡◌, refl, sym, ap, ap₂, ◌∙◌}
use mathlib.Core.Bool.{Bool, cond, not, ◌&&◌, ◌||◌}
use mathlib.Core.List.{List, [], ◌∷◌, ◌++◌, map, append_assoc, append-nil}
use native.Mathlib.Nat.{mul-le-mul}
use native.Mathlib.Numerals.{add-one}
use native.Mathlib.Omega.{arith}
use lib.ListN.{length, get_or, take, drop, set, length-append, length-take, length-map, drop_of_length-le}
use lib.Seq.{drop-cons, drop-drop, get_or-take, get_or-drop}
use borrow.Author.Tests.{eq-eqb}
use Rattle.group.specs.promises.Made.{Source, Marks, grouped_marked, row_of_group, group_cells, AllMade}
use Rattle.chains.specs.promises.Chains.{first_same, leaders_after}
use Rattle.group.specs.promises.Members.{ColumnInside, grouped_rows, row_of, chosen, members}
use Rattle.group.specs.declared.Grouping.{Grouping}
use Rattle.cells.specs.promises.Cells.{no_marks, bare_rows, Wide}
use Rattle.cells.specs.promises.Work.{Work, Memory, cells_in, room, Kept}
use Rattle.cells.specs.promises.Written.{Written, Put}
use Rattle.memory.specs.promises.Stack.{last_slot, last_marks, mark_part}
use Rattle.plan.specs.Group.{same_keys, groups_after, distinct, group_size, aggregate_cell}
use Rattle.plan.specs.Keep.{kept_cells}
use Rattle.plan.specs.Masks.{in_mask}
use Rattle.plan.specs.Table.{Cell, Row, cell_at, flat, Each}
use Rattle.comparison.specs.Comparison.{same}
use Rattle.group.proofs.Choosing.{numbers-next, chosen-map, drop-map, rows-left}
use Rattle.group.proofs.Groups.{group-next, group-none}
use Rattle.chains.proofs.Leading.{row-of}
use Rattle.cells.proofs.CellLaws.{cells-length, kept-none, kept_then}
use Rattle.cells.proofs.RowReads.{flat-length}
use Rattle.cells.proofs.Rows.{marked-length, marked-at, marks-are, bare, bare-rows, rows-length, no-marks}
use Rattle.memory.proofs.Stacks.{part-still, marks-count, rows-still}
use Rattle.cells.proofs.Written.{nothing_written, one_written, read_below, as_long, below-written, then-written}
use Rattle.plan.proofs.SenseShape.{each_append, kept-length, groups-fewer}

-- ---- lists

map_last : {A B : Type 0} (f : A → B) (xs : List A) (x : A) → map f (xs ++ (x ∷ [])) ≡ map f xs ++ (f x ∷ [])
map_last f [] x = refl
map_last f (y ∷ xs) x = ap (λ (l : List _). f y ∷ l) (map_last f xs x)

flat-last : (rows : List Row) (row : Row) → flat (rows ++ (row ∷ [])) ≡ flat rows ++ row.cells
flat-last [] row = append-nil row.cells
flat-last (first ∷ rows) row = ap (λ (l : List Cell). first.cells ++ l) (flat-last rows row) ∙ sym (append_assoc first.cells (flat rows) row.cells)

pub inside-labels : {g : Grouping} {values labels : ℕ} → Source g values labels → ColumnInside g labels
inside-labels s = record { few-rows = s.few-rows; few-columns = s.few-columns; has-column = s.has-column; within = omega (arith, s.below, s.labels-room) }

-- 256 rows fit the last slot
pub row_fits : (count width : ℕ) → count < 256 → width ≤ 8 → count * width + width ≤ 2048
row_fits count width h k = let m : suc count * width ≤ 256 * 8 = mul-le-mul h k in omega (arith, m)

-- ---- rows without their marks

same-bare : (keys columns : ℕ) (a b : Row) → same_keys keys columns (bare a) (bare b) ≡ same_keys keys columns a b
same-bare keys zero a b = refl
same-bare keys (suc column) a b = ap (λ (t : Bool). t && (not (in_mask keys column) || same (cell_at column a).value (cell_at column b).value)) (same-bare keys column a b)

first-bare : (keys columns : ℕ) (row : Row) (rows : List Row) → first_same keys columns (bare row) (map bare rows) ≡ first_same keys columns row rows
first-bare keys columns row [] = refl
first-bare keys columns row (other ∷ rest) = ap₂ (λ (t : Bool) (n : ℕ). cond t 0 (suc n)) (same-bare keys columns other row) (first-bare keys columns row rest)

leaders-bare : (keys columns : ℕ) (earlier rows : List Row) → leaders_after keys columns (map bare earlier) (map bare rows) ≡ leaders_after keys columns earlier rows
leaders-bare keys columns earlier [] = refl
leaders-bare keys columns earlier (row ∷ rest) =
    ap₂ ◌∷◌ (first-bare keys columns row earlier)
    (ap (λ (l : List Row). leaders_after keys columns l (map bare rest)) (sym (map_last bare earlier row)) ∙ leaders-bare keys columns (earlier ++ (row ∷ [])) rest)

leaders-count : (keys columns : ℕ) (earlier rows : List Row) → length (leaders_after keys columns earlier rows) ≡ length rows
leaders-count keys columns earlier [] = refl
leaders-count keys columns earlier (row ∷ rest) = ap suc (leaders-count keys columns (earlier ++ (row ∷ [])) rest)

size_is : (rows : List Row) → distinct (map (λ row. row.mark) rows) ≡ group_size rows
unfolding group_size
size_is rows = refl

kept-bare : (mask columns : ℕ) (row : Row) → kept_cells mask columns (bare row) ≡ kept_cells mask columns row
kept-bare mask zero row = refl
kept-bare mask (suc column) row = ap (λ (l : List Cell). l ++ cond (in_mask mask column) (cell_at column row ∷ []) []) (kept-bare mask column row)

column-bare : (column : ℕ) (rows : List Row) → map (cell_at column) (map bare rows) ≡ map (cell_at column) rows
column-bare column [] = refl
column-bare column (row ∷ rows) = ap (λ (l : List Cell). cell_at column row ∷ l) (column-bare column rows)

-- ---- a table in memory, and the groups that are written above it

module _ (g : Grouping) (before : Memory) where
  abbrev memory : List Cell
  memory = cells_in before.work

  abbrev row_marks : List ℕ
  row_marks = mark_part before.marks g.table.marks g.table.rows

  -- the table's rows
  abbrev table : List Row
  table = grouped_marked g before

  -- one of them
  abbrev row_at : ℕ → Row
  row_at row = record { cells = (row_of g memory row).cells; mark = get_or before.marks (g.table.marks + row) 0 }

  -- the groups that are written, and the rows that are passed
  pub record Making (m : Memory) (count row : ℕ) : Type 0 where
    pub done : List (List Row)
    pub rest : groups_after g.keys g.table.columns [] table ≡ done ++ groups_after g.keys g.table.columns (take row table) (drop row table)
    pub counted : count ≡ length done
    pub wide : Each (Wide g.width) (map (row_of_group g) done)
    pub written : Written memory last_slot (flat (map (row_of_group g) done)) (cells_in m.work)
    pub marks : Written before.marks last_marks (map (λ row. row.mark) (map (row_of_group g) done)) m.marks
    pub kept : Kept before.work m.work

  module _ (source : Source g (length before.work.values) (length before.work.labels)) (marked : Marks g (length before.marks)) where
    long : room ≤ length memory
    long = cells-length before.work room source.values-room source.labels-room

    pub none_made : Making before 0 0
    none_made = record {
      done = [];
      rest = refl;
      counted = refl;
      wide = tt;
      written = nothing_written memory last_slot (omega (arith, long));
      marks = nothing_written before.marks last_marks (omega (arith, marked.mark-room));
      kept = kept-none before.work;
    }

    as-many-marks : length row_marks ≡ g.table.rows
    as-many-marks = marks-count before.marks g.table.marks g.table.rows (omega (arith, marked.below, marked.mark-room))

    bare-table : map bare table ≡ grouped_rows g memory
    bare-table = bare-rows g.table.columns row_marks (drop g.table.at memory) ∙ ap (λ (n : ℕ). bare_rows g.table.columns n (drop g.table.at memory)) as-many-marks

    as_many : length table ≡ g.table.rows
    as_many = marked-length g.table.columns row_marks (drop g.table.at memory) ∙ as-many-marks

    -- the table below is as it was
    pub same_rows : (m : Memory) (count row : ℕ) → Making m count row → grouped_rows g (cells_in m.work) ≡ grouped_rows g memory
    same_rows m count row k =
        rows-still before.work m.work long (as_long k.written) g.table.at last_slot g.table.columns (no_marks g.table.rows) (rw (no-marks g.table.rows) source.below) (omega arith) (below-written k.written)

    -- and so are its marks
    pub same-marks : (m : Memory) (count row : ℕ) → Making m count row → mark_part m.marks g.table.marks g.table.rows ≡ row_marks
    same-marks m count row k =
        part-still before.marks m.marks g.table.marks g.table.rows last_marks marked.below (omega (arith, marked.mark-room)) (as_long k.marks) (below-written k.marks)

    pub same-mark : (m : Memory) (count row other : ℕ) → Making m count row → other < g.table.rows → get_or m.marks (g.table.marks + other) 0 ≡ get_or before.marks (g.table.marks + other) 0
    same-mark m count row other k h = read_below k.marks (g.table.marks + other) 0 (omega (arith, marked.below))

    module _ (leaders : List ℕ) (known : take g.table.rows leaders ≡ leaders_after g.keys g.table.columns [] (grouped_rows g memory)) (m : Memory) (count row : ℕ) (k : Making m count row) (h : row < g.table.rows) where
      known-all : take (length table) leaders ≡ leaders_after g.keys g.table.columns [] table
      known-all = rw as_many (known ∙ ap (leaders_after g.keys g.table.columns []) (sym bare-table) ∙ leaders-bare g.keys g.table.columns [] table)

      inside : row < length table
      inside = rw as_many h

      itself : get_or table row (row_at row) ≡ row_at row
      itself =
          marked-at g.table.columns row row_marks (drop g.table.at memory) (row_at row) (rw as-many-marks h)
          ∙ ap₂ (λ (l : List Cell) (n : ℕ). record { cells = take g.table.columns l; mark = n }) (drop-drop (row * g.table.columns) g.table.at memory)
          (get_or-take g.table.rows (drop g.table.marks before.marks) row 0 h ∙ get_or-drop g.table.marks before.marks row 0)

      pub row-passed : (get_or leaders row 0 ≡ row → ⊥) → Making m count (row + 1)
      row-passed n = record {
        done = k.done;
        rest = k.rest ∙ ap (λ (l : List (List Row)). k.done ++ l) (group-none g.keys g.table.columns table leaders known-all row (row_at row) inside itself n);
        counted = k.counted;
        wide = k.wide;
        written = k.written;
        marks = k.marks;
        kept = k.kept;
      }

      -- the group that the row leads
      abbrev led : List Row
      led = row_at row ∷ chosen row (drop (row + 1) leaders) (drop (row + 1) table)

      -- its members without their marks, read out of memory as it is now
      now-members : members g (cells_in m.work) leaders row ≡ map bare led
      now-members =
          let same = same_rows m count row k in
          let d = row_of g memory row in
          let leader : row_of g (cells_in m.work) row ≡ d
          = sym (row-of g.table.columns g.table.rows g.table.at (cells_in m.work) row d h) ∙ ap (λ (rows : List Row). get_or rows row d) same ∙ row-of g.table.columns g.table.rows g.table.at memory row d h in
          ap₂ (λ (x : Row) (rows : List Row). x ∷ chosen row (drop (row + 1) leaders) rows) leader (rows-left g (cells_in m.work) (row + 1) ∙ ap (drop (row + 1)) (same ∙ sym bare-table))
          ∙ ap (λ (rows : List Row). d ∷ rows) (ap (chosen row (drop (row + 1) leaders)) (drop-map bare (row + 1) table) ∙ chosen-map bare row (drop (row + 1) leaders) (drop (row + 1) table))

      -- its marks
      led-marks : get_or leaders row 0 ≡ row → chosen row (drop row leaders) (drop row row_marks) ≡ map (λ row. row.mark) led
      led-marks e =
          let many : row < length leaders = omega (arith, ap length known, length-take g.table.rows leaders, leaders-long) in
          let first : drop row row_marks ≡ (row_at row).mark ∷ drop (row + 1) row_marks
          = drop-cons row_marks row 0 (rw as-many-marks h)
          ∙ ap₂ (λ (x n : ℕ). x ∷ drop n row_marks) (get_or-take g.table.rows (drop g.table.marks before.marks) row 0 h ∙ get_or-drop g.table.marks before.marks row 0) (sym (add-one row)) in
          rw (first, numbers-next leaders row many, eq-eqb (get_or leaders row 0) row e)
          (ap (λ (l : List ℕ). (row_at row).mark ∷ l)
          (ap (λ (l : List ℕ). chosen row (drop (row + 1) leaders) (drop (row + 1) l)) (sym (marks-are g.table.columns row_marks (drop g.table.at memory)))
          ∙ ap (chosen row (drop (row + 1) leaders)) (drop-map (λ row. row.mark) (row + 1) table) ∙ chosen-map (λ row. row.mark) row (drop (row + 1) leaders) (drop (row + 1) table)))
        where
          leaders-long : length (leaders_after g.keys g.table.columns [] (grouped_rows g memory)) ≡ g.table.rows
          leaders-long = leaders-count g.keys g.table.columns [] (grouped_rows g memory) ∙ rows-length g.table.columns g.table.rows (drop g.table.at memory)

      group-cells : (sheets : ℕ) → sheets ≡ group_size led → group_cells g (cells_in m.work) leaders row sheets ≡ (row_of_group g led).cells
      group-cells sheets e =
          ap₂ (λ (rows : List Row) (n : ℕ). kept_cells g.keys g.table.columns (get_or rows 0 (row_at row)) ++ (aggregate_cell g.aggregate (map (cell_at g.column) rows) n ∷ [])) now-members e
          ∙ ap₂ (λ (cells : List Cell) (all : List Cell). cells ++ (aggregate_cell g.aggregate all (group_size led) ∷ [])) (kept-bare g.keys g.table.columns (row_at row)) (column-bare g.column led)

      pub group-made : (after : Work) {to sheets : ℕ} → count ≤ row → get_or leaders row 0 ≡ row → to ≡ last_slot + count * g.width
          → sheets ≡ distinct (chosen row (drop row leaders) (drop row row_marks)) → Put to (group_cells g (cells_in m.work) leaders row sheets) m.work after
          → Making (record { work = after; marks = set m.marks (last_marks + count) (get_or m.marks (g.table.marks + row) 0) }) (count + 1) (row + 1)
      group-made after {to} {sheets} upto e to_is counted put =
          let place : to ≡ last_slot + length (flat (map (row_of_group g) k.done))
          = to_is ∙ ap (λ (n : ℕ). last_slot + n) (sym (flat-length g.width (map (row_of_group g) k.done) k.wide ∙ ap (λ (n : ℕ). n * g.width) (length-map k.done (row_of_group g) ∙ sym k.counted))) in
          let next = group-next g.keys g.table.columns table leaders known-all row (row_at row) inside itself e in
          let cells = group-cells sheets (counted ∙ ap distinct (led-marks e) ∙ size_is led) in
          let many : length (map (λ row. row.mark) (map (row_of_group g) k.done)) ≡ count = length-map (map (row_of_group g) k.done) (λ row. row.mark) ∙ length-map k.done (row_of_group g) ∙ sym k.counted in
          record {
            done = k.done ++ (led ∷ []);
            rest = k.rest ∙ ap (λ (l : List (List Row)). k.done ++ l) next ∙ sym (append_assoc k.done (led ∷ []) _);
            counted = simp length-append (omega (arith, k.counted));
            wide = rw (map_last (row_of_group g) k.done led) (each_append (Wide g.width) (map (row_of_group g) k.done) (row_of_group g led ∷ []) k.wide (group-wide, tt));
            written = rw (map_last (row_of_group g) k.done led, flat-last (map (row_of_group g) k.done) (row_of_group g led)) (then-written k.written place (rw cells at put.written));
            marks = rw (map_last (row_of_group g) k.done led, map_last (λ row. row.mark) (map (row_of_group g) k.done) (row_of_group g led), same-mark m count row row k h)
                (rw many at (one_written k.marks (row_at row).mark (omega (arith, many, upto, source.few-rows, marked.mark-room))));
            kept = kept_then k.kept put.kept;
          }
        where
          group-wide : length (row_of_group g led).cells ≡ g.width
          group-wide = length-append (kept_cells g.keys g.table.columns (row_at row)) _ ∙ ap (λ (n : ℕ). n + 1) (kept-length g.keys g.table.columns (row_at row)) ∙ sym source.width_is

    pub all_made : (m : Memory) (count row : ℕ) → Making m count row → g.table.rows ≤ row → AllMade g before count m
    all_made m count row k h =
        let full : length table ≤ row = rw as_many h in
        let none : drop row table ≡ [] = drop_of_length-le table full in
        let all : groups_after g.keys g.table.columns [] table ≡ k.done
        = k.rest ∙ ap (λ (l : List Row). k.done ++ groups_after g.keys g.table.columns (take row table) l) none ∙ append-nil k.done in
        record {
          counted = k.counted ∙ sym (length-map k.done (row_of_group g)) ∙ ap (λ (l : List (List Row)). length (map (row_of_group g) l)) (sym all);
          wide = rw all k.wide;
          put = record { written = rw all k.written; kept = k.kept };
          marks = rw all k.marks;
        }

-- no more groups than rows
pub few-made : {g : Grouping} {before m : Memory} {count : ℕ} → Source g (length before.work.values) (length before.work.labels) → Marks g (length before.marks) → AllMade g before count m → count ≤ 256
few-made {g} {before} source marked k =
    omega (
      arith,
      k.counted,
      length-map (groups_after g.keys g.table.columns [] (grouped_marked g before)) (row_of_group g),
      groups-fewer g.keys g.table.columns [] (grouped_marked g before),
      as_many g before source marked,
      source.few-rows,
    )

-- The marks of the rows of a join: each row takes its left row's, and no right row's counts. Assumes nothing.
use Prim.Native.Nat.{ℕ, ◌+◌, ◌-◌, ◌*◌, ◌≤◌, ◌<◌}
use mathlib.Core.Path.{◌≡◌, refl, sym, ap, ap₂, ◌∙◌}
use mathlib.Core.Bool.{Bool, true, false, cond}
use mathlib.Core.List.{List, [], ◌∷◌, ◌++◌, map, map-append, append_assoc, append-nil}
use native.Mathlib.Nat.{le_refl}
use native.Mathlib.Numerals.{add-one}
use native.Mathlib.Omega.{arith}
use lib.ListN.{length, get_or, take, drop, replicate, length-append, length-drop, length-map, length-replicate}
use lib.Seq.{take-suc, get_or-drop}
use Rattle.cells.specs.promises.Cells.{bare_rows}
use Rattle.cells.specs.promises.Work.{Work, Memory, cells_in}
use Rattle.cells.specs.promises.Written.{Written}
use Rattle.memory.specs.promises.Stack.{last_marks, mark_part}
use Rattle.std.specs.Prelude.{Ok, Err}
use Rattle.pairs.specs.declared.Side.{Side}
use Rattle.pairs.specs.declared.TooMany.{TooMany}
use Rattle.pairs.specs.promises.Pairs.{MarksBelow, Joined, side_rows, all_rows, left_marked, marked_rows}
use Rattle.plan.specs.Join.{matches, joined_row, joined_to, joined_rows}
use Rattle.plan.specs.Table.{Cell, Row, rows_of, flat}
use Rattle.cells.proofs.CellLaws.{marks-written}
use Rattle.cells.proofs.Rows.{bare, bare-rows, flat-bare, marked_more}
use Rattle.cells.proofs.Written.{below-written, read_below, then-written}
use Rattle.memory.proofs.Stacks.{marks-count}
use Rattle.pairs.proofs.Growing.{counted-few, counted-many}
use Rattle.pairs.proofs.Turns.{Lefts}

-- ---- the rows as lists

module _ (a b : ℕ) where
  -- the rows that one left row makes: without marks, their marks, and of right rows without marks
  to-bare : (left : Row) (rights : List Row) → map bare (joined_to a b left rights) ≡ joined_to a b (bare left) rights
  to-bare left [] = refl
  to-bare left (right ∷ rest) = either (matches a b left right) (joined_to a b left rest) (to-bare left rest)
    where
      either : (t : Bool) (made : List Row) {others : List Row} → map bare made ≡ others
          → map bare (cond t (joined_row b left right ∷ made) made) ≡ cond t (joined_row b (bare left) right ∷ others) others
      either true made e = ap (λ (l : List Row). joined_row b (bare left) right ∷ l) e
      either false made e = e

  to-marks : (left : Row) (rights : List Row) → map (λ row. row.mark) (joined_to a b left rights) ≡ replicate (length (joined_to a b left rights)) left.mark
  to-marks left [] = refl
  to-marks left (right ∷ rest) = either (matches a b left right) (joined_to a b left rest) (to-marks left rest)
    where
      either : (t : Bool) (made : List Row) → map (λ row. row.mark) made ≡ replicate (length made) left.mark
          → map (λ row. row.mark) (cond t (joined_row b left right ∷ made) made) ≡ replicate (length (cond t (joined_row b left right ∷ made) made)) left.mark
      either true made e = ap (λ (l : List ℕ). left.mark ∷ l) e
      either false made e = e

  to-rights : (left : Row) (rights : List Row) → joined_to a b left (map bare rights) ≡ joined_to a b left rights
  to-rights left [] = refl
  to-rights left (right ∷ rest) = ap (λ (l : List Row). cond (matches a b left right) (joined_row b left right ∷ l) l) (to-rights left rest)

  -- the same of the rows that all left rows make
  rows-bare : (lefts rights : List Row) → map bare (joined_rows a b lefts rights) ≡ joined_rows a b (map bare lefts) rights
  rows-bare [] rights = refl
  rows-bare (left ∷ rest) rights = map-append bare (joined_to a b left rights) _ ∙ ap₂ ◌++◌ (to-bare left rights) (rows-bare rest rights)

  pub rights-bare : (lefts rights : List Row) → joined_rows a b lefts (map bare rights) ≡ joined_rows a b lefts rights
  rights-bare [] rights = refl
  rights-bare (left ∷ rest) rights = ap₂ ◌++◌ (to-rights left rights) (rights-bare rest rights)

  -- one left row more
  marks-add : (lefts : List Row) (left : Row) (rights : List Row)
      → map (λ row. row.mark) (joined_rows a b (lefts ++ (left ∷ [])) rights)
      ≡ map (λ row. row.mark) (joined_rows a b lefts rights) ++ replicate (length (joined_to a b left rights)) left.mark
  marks-add [] left rights = ap (map (λ row. row.mark)) (append-nil (joined_to a b left rights)) ∙ to-marks left rights
  marks-add (first ∷ lefts) left rights =
      let news = map (λ row. row.mark) (joined_to a b first rights) in
      map-append (λ row. row.mark) (joined_to a b first rights) _ ∙ ap (λ (l : List ℕ). news ++ l) (marks-add lefts left rights)
      ∙ sym (ap (λ (l : List ℕ). l ++ replicate (length (joined_to a b left rights)) left.mark) (map-append (λ row. row.mark) (joined_to a b first rights) _) ∙ append_assoc news _ _)

  -- they are as many as without marks, and have the same cells
  joined_length : (lefts rights : List Row) → length (joined_rows a b lefts rights) ≡ length (joined_rows a b (map bare lefts) rights)
  joined_length lefts rights = sym (length-map (joined_rows a b lefts rights) bare) ∙ ap length (rows-bare lefts rights)

  joined-flat : (lefts rights : List Row) → flat (joined_rows a b lefts rights) ≡ flat (joined_rows a b (map bare lefts) rights)
  joined-flat lefts rights = sym (flat-bare (joined_rows a b lefts rights)) ∙ ap flat (rows-bare lefts rights)

-- ---- the marks in work memory

module _ (m : Memory) (left right : Side) where
  abbrev cells : List Cell
  cells = drop left.table.at (cells_in m.work)

  abbrev made : List Row → List Row
  made lefts = joined_rows left.key right.key lefts (side_rows (cells_in m.work) right)

  -- the first left rows, and the marks of the rows that they make
  abbrev firsts : ℕ → List Row
  firsts i = rows_of left.table.columns (mark_part m.marks left.table.marks i) cells

  abbrev pub marks_of : ℕ → List ℕ
  marks_of i = map (λ row. row.mark) (made (firsts i))

  module _ (below : MarksBelow left (length m.marks)) where
    -- left rows without their marks
    lefts-bare : (i : ℕ) → i ≤ left.table.rows → map bare (firsts i) ≡ bare_rows left.table.columns i cells
    lefts-bare i h =
        let part = mark_part m.marks left.table.marks i in
        let counted : length part ≡ i = marks-count m.marks left.table.marks i (omega (arith, below.below, below.mark-room)) in
        bare-rows left.table.columns part cells ∙ ap (λ (n : ℕ). bare_rows left.table.columns n cells) counted

    -- the rows with marks are as many as without, and have the same cells
    first-length : (i : ℕ) → i ≤ left.table.rows → length (made (firsts i)) ≡ length (made (bare_rows left.table.columns i cells))
    first-length i h = joined_length left.key right.key (firsts i) (side_rows (cells_in m.work) right) ∙ ap (λ (l : List Row). length (made l)) (lefts-bare i h)

    pub all-length : length (marked_rows m left right) ≡ length (all_rows (cells_in m.work) left right)
    all-length = first-length left.table.rows (le_refl left.table.rows)

    pub all-flat : flat (marked_rows m left right) ≡ flat (all_rows (cells_in m.work) left right)
    all-flat = joined-flat left.key right.key (left_marked m left) (side_rows (cells_in m.work) right) ∙ ap (λ (l : List Row). flat (made l)) (lefts-bare left.table.rows (le_refl left.table.rows))

    -- and so many marks
    marks-long : (i : ℕ) → i ≤ left.table.rows → length (marks_of i) ≡ length (made (bare_rows left.table.columns i cells))
    marks-long i h = length-map (made (firsts i)) (λ row. row.mark) ∙ first-length i h

    -- one left row more
    marks-more : (i : ℕ) → i < left.table.rows
        → marks_of (i + 1) ≡ marks_of i ++ replicate (length (marks_of (i + 1)) - length (marks_of i)) (get_or m.marks (left.table.marks + i) 0)
    marks-more i h =
        let part = mark_part m.marks left.table.marks i in
        let mark = get_or m.marks (left.table.marks + i) 0 in
        let row : Row = record { cells = take left.table.columns (drop (length part * left.table.columns) cells); mark = mark } in
        let count = length (joined_to left.key right.key row (side_rows (cells_in m.work) right)) in
        let parts : mark_part m.marks left.table.marks (i + 1) ≡ part ++ (mark ∷ [])
        = ap (mark_part m.marks left.table.marks) (add-one i) ∙ take-suc (drop left.table.marks m.marks) i 0 (simp length-drop (omega (arith, below.below, below.mark-room)))
        ∙ ap (λ (x : ℕ). part ++ (x ∷ [])) (get_or-drop left.table.marks m.marks i 0) in
        let all : marks_of (i + 1) ≡ marks_of i ++ replicate count mark
        = ap (λ (l : List Row). map (λ row. row.mark) (made l)) (ap (λ (p : List ℕ). rows_of left.table.columns p cells) parts ∙ marked_more left.table.columns part mark cells)
        ∙ marks-add left.key right.key (firsts i) row (side_rows (cells_in m.work) right) in
        let sum : length (marks_of (i + 1)) - length (marks_of i) ≡ count
        = omega (arith, ap length all, length-append (marks_of i) (replicate count mark), length-replicate count mark) in
        rw sum all

    module _ (i : ℕ) {count : ℕ} {u : Work} (few : i ≤ left.table.rows) (g : Lefts left right m.work i (Ok count) u) where
      marks-counted : length (marks_of i) ≡ count
      marks-counted = marks-long i few ∙ omega (arith, (counted-few _ g.counted).0)

      few-counted : count ≤ 256
      few-counted = omega (arith, (counted-few _ g.counted).0, (counted-few _ g.counted).1)

      -- their marks stand in the last slot
      module _ {marks : List ℕ} (w : Written m.marks last_marks (marks_of i) marks) where
        pub over-joined : {wrong : TooMany} {x : Work} → Lefts left right m.work left.table.rows (Err wrong) x → Joined left right m (Err wrong) (record { work = x; marks = marks })
        over-joined k = record {
          grown = k;
          marked = λ l. absurd (omega (arith, counted-many _ k.counted));
          marks-below = below-written w;
          marks-kept = marks-written w (omega (arith, marks-counted, few-counted));
        }

        pub all-joined : i ≡ left.table.rows → Joined left right m (Ok count) (record { work = u; marks = marks })
        all-joined e = record {
          grown = rw e at g;
          marked = λ _. rw e at w;
          marks-below = below-written w;
          marks-kept = marks-written w (omega (arith, marks-counted, few-counted));
        }

        -- and so they do with those of one left row more
        pub marks-next : {total : ℕ} {x : Work} {after : List ℕ} → i < left.table.rows → Lefts left right m.work (i + 1) (Ok total) x
            → Written marks (last_marks + count) (replicate (total - count) (get_or marks (left.table.marks + i) 0)) after → Written m.marks last_marks (marks_of (i + 1)) after
        marks-next {total} l k f =
            let then : length (marks_of (i + 1)) ≡ total = marks-long (i + 1) (omega arith) ∙ omega (arith, (counted-few _ k.counted).0) in
            let same = read_below w (left.table.marks + i) 0 (omega (arith, below.below)) in
            rw (marks-more i l, then, marks-counted) (then-written w (omega (arith, marks-counted)) (rw same at f))

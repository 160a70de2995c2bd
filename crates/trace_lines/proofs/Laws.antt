-- The stages left on a table in memory, and lists of trace lines. Assumes nothing.
use Prim.Native.Nat.{ℕ, ◌+◌, ◌-◌, ◌*◌, ◌≤◌}
use mathlib.Core.Path.{◌≡◌, refl, sym, ap, ap₂, ◌∙◌}
use mathlib.Core.Bool.{Bool, true, cond}
use mathlib.Core.List.{List, [], ◌∷◌, ◌++◌, map, append_assoc}
use native.Mathlib.Omega.{arith}
use lib.ListN.{length, take, drop, length-append, length-drop}
use lib.Seq.{take_at, drop_at, drop-drop}
use borrow.Author.Tests.{le-leb}
use Rattle.cells.specs.promises.Search.{table_within}
use Rattle.cells.specs.promises.Work.{Work, cells_in}
use Rattle.plan.specs.Table.{labels_of, rows_of}
use Rattle.plan.specs.Trace.{Line, stages_left, line_numbers, flat_lines}
use Rattle.trace_lines.specs.promises.Lines.{line_fits, with_line}
use Rattle.trace_lines.specs.promises.Stages.{stages_at}
use Rattle.cells.proofs.CellLaws.{cells-drop}
use Rattle.cells.proofs.Rows.{marked-grid}

-- ---- a table in memory

-- whatever the marks of its rows
module _ (w : Work) (at columns rows : ℕ) (marks : List ℕ) (as_many : length marks ≡ rows) where
  -- the stages left on it
  pub table-stages : table_within at rows columns (length w.labels) ≡ true → at + rows * columns ≤ length w.values
      → stages_left (map labels_of (rows_of columns marks (drop at (cells_in w)))) ≡ stages_at w.labels at rows columns
  table-stages e h =
      rw (e, ← cells-drop at w.values w.labels, ← as_many)
      (ap stages_left (marked-grid columns marks (drop at w.values) (drop at w.labels) (rw as_many (simp length-drop (omega arith)))))

-- ---- trace lines

pub lines-length : (lines : List Line) → length (flat_lines lines) ≡ 4 * length lines
lines-length [] = refl
lines-length (line ∷ rest) = omega (arith, lines-length rest)

pub lines-append : (lines others : List Line) → flat_lines (lines ++ others) ≡ flat_lines lines ++ flat_lines others
lines-append [] others = refl
lines-append (line ∷ rest) others = ap (λ (l : List ℕ). line_numbers line ++ l) (lines-append rest others)

-- a trace that begins with so many lines, over what stood there before
module _ (lines : List Line) (trace before : List ℕ) (e : trace ≡ flat_lines lines ++ drop (4 * length lines) before) where
  -- it has room for one more line where there was room before
  pub line-fits : 4 * (length lines + 1) ≤ length before → line_fits (length lines) trace ≡ true
  line-fits h =
      let whole : length trace ≡ 4 * length lines + (length before - 4 * length lines)
      = ap length e ∙ length-append (flat_lines lines) (drop (4 * length lines) before) ∙ ap₂ ◌+◌ (lines-length lines) (length-drop (4 * length lines) before) in
      le-leb (4 * length lines + 4) (length trace) (omega arith)

  -- the next line stands behind them
  pub line-behind : (next : Line) → with_line (length lines) next trace ≡ flat_lines (lines ++ (next ∷ [])) ++ drop (4 * (length lines + 1)) before
  line-behind next =
      let k = 4 * length lines in
      let begins : take k trace ≡ flat_lines lines = ap (take k) e ∙ take_at (flat_lines lines) (drop k before) k (lines-length lines) in
      let ends : drop k trace ≡ drop k before = ap (drop k) e ∙ drop_at (flat_lines lines) (drop k before) k (lines-length lines) in
      let past : drop (k + 4) trace ≡ drop (k + 4) before = sym (drop-drop 4 k trace) ∙ ap (drop 4) ends ∙ drop-drop 4 k before in
      let sum : k + 4 ≡ 4 * (length lines + 1) = omega arith in
      ap₂ (λ (l r : List ℕ). l ++ (line_numbers next ++ r)) begins (past ∙ ap (λ (n : ℕ). drop n before) sum)
      ∙ sym (append_assoc (flat_lines lines) (line_numbers next) _) ∙ ap (λ (l : List ℕ). l ++ drop (4 * (length lines + 1)) before) (sym (lines-append lines (next ∷ [])))

  -- so after `write_line`
  pub line-written : (next : Line) {answer : Bool} {after : List ℕ} → 4 * (length lines + 1) ≤ length before → answer ≡ line_fits (length lines) trace
      → after ≡ cond answer (with_line (length lines) next trace) trace
      → (answer ≡ true) × (after ≡ flat_lines (lines ++ (next ∷ [])) ++ drop (4 * (length lines + 1)) before)
  line-written next room a w = let t = a ∙ line-fits room in (t, w ∙ rw t (line-behind next))

-- Which draw NOISE adds to which row, and which draws are left. Assumes nothing.
use Prim.Native.Nat.{ℕ, zero, suc, ◌-◌, ◌≤◌, ◌<◌}
use mathlib.Core.Path.{◌≡◌, refl, ap, ◌∙◌}
use mathlib.Core.List.{List, [], ◌∷◌}
use native.Mathlib.Numerals.{one-add}
use native.Mathlib.Omega.{arith}
use lib.Dec.{leb}
use lib.IntN.{ℤ, pos}
use lib.ListN.{length, get_or, drop, length-map, get_or-map}
use lib.Seq.{get_or-drop}
use borrow.Author.Tests.{leb-false}
use Rattle.label_discharge.specs.Discharge.{forbids_n}
use Rattle.plan.specs.Noise.{noise_row, check_noise, noisy_row, noisy_rows, with_noise}
use Rattle.plan.specs.Sense.Draws.{NoiseRows, DrawsEnough, DrawsLeft}
use Rattle.plan.specs.Steps.{check, make}
use Rattle.plan.specs.Table.{Row, no_table, labels_of, grid, top}
use Rattle.plan.specs.Verdict.{fine, refuse_if, first_row}
use Rattle.plan.specs.declared.Step.TheVariants.{Scan, Union, Join, Filter, Keep, Apply, Group, Noise}
use Rattle.plan.proofs.Alike.{or-fine, if-fine}
use Rattle.plan.proofs.SenseShape.{noisy-count}

abbrev no_row : Row
no_row = record { cells = []; mark = 0 }

row_at : (column : ℕ) (draws : List ℤ) (rows : List Row) (i : ℕ) → i < length rows
    → get_or (noisy_rows column draws rows) i no_row ≡ noisy_row column (get_or rows i no_row) (get_or draws i (pos 0))
row_at column draws [] i h = absurd (omega arith)
row_at column draws (row ∷ rest) zero h = refl
row_at column draws (row ∷ rest) (suc i) h =
    row_at column (drop 1 draws) rest i (omega arith) ∙ ap (noisy_row column (get_or rest i no_row)) (get_or-drop 1 draws i (pos 0) ∙ ap (λ (k : ℕ). get_or draws k (pos 0)) (one-add i))

pub noise-rows : NoiseRows
unfolding make with_noise
noise-rows column supply stack = (noisy-count column supply.draws (top stack).rows, row_at column supply.draws (top stack).rows)

-- rows that are numbered from `first` on have the draws from there on
enough-from : (column left first : ℕ) (rows : List (List ℕ)) → first_row (noise_row column left) first rows ≡ fine → length rows ≤ left - first
enough-from column left first [] e = omega arith
enough-from column left first (labels ∷ rest) e =
    let here = or-fine (noise_row column left first labels) _ e in
    let drawn = (or-fine (refuse_if (forbids_n (get_or labels column 0)) 32 first column) _ here.0).1 in
    omega (arith, leb-false left first (if-fine (leb left first) 37 first column drawn), enough-from column left (suc first) rest here.1)

pub draws-enough : DrawsEnough
unfolding check check_noise
draws-enough (Scan table) left stack e = omega arith
draws-enough Union left stack e = omega arith
draws-enough (Join a b) left stack e = omega arith
draws-enough (Filter column comparison operand) left stack e = omega arith
draws-enough (Keep mask) left stack e = omega arith
draws-enough (Apply column transform) left stack e = omega arith
draws-enough (Group keys aggregate column) left stack e = omega arith
draws-enough (Noise column) left stack e =
    let rows = (top stack).rows in
    let many = enough-from column left 0 (grid (top stack)) (rw (get_or-map grid stack 0 no_table) at e) in
    omega (arith, many, length-map rows labels_of)

pub draws-left : DrawsLeft
draws-left step supply stack = (λ e. rw e, λ e. rw e)

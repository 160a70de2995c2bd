-- The row that NOISE makes of a row, and the rows that it makes of rows. Assumes nothing.
use Prim.Native.Nat.{ℕ, suc}
use mathlib.Core.Path.{◌≡◌, refl, ap, ap₂, ◌∙◌}
use mathlib.Core.Bool.{true}
use mathlib.Core.List.{List, [], ◌∷◌}
use native.Mathlib.Nat.{add-zero}
use native.Mathlib.Numerals.{add-one}
use lib.IntN.{ℤ, pos}
use lib.ListN.{get_or, drop}
use lib.Seq.{get_or-drop, drop-drop}
use Rattle.extension.specs.promises.Rows.{made_cell, extended_from}
use Rattle.label_discharge.specs.Discharge.{forbids_n, after_n, noised, noise_answer}
use Rattle.label_words.specs.WellFormed.{well_formed}
use Rattle.noise.specs.promises.Making.{label_at}
use Rattle.noise_value.specs.Noise.{noisy}
use Rattle.plan.specs.Noise.{noisy_cell, noisy_row, noisy_rows}
use Rattle.plan.specs.Table.{Cell, Row, cell_at}
use Rattle.cells.proofs.CellLaws.{cell}
use Rattle.extension.proofs.LabelledRows.{Formed}
use Rattle.extension.proofs.Labels.{left-after}
use Rattle.label_laws.proofs.Laws.{after-N}

-- the cell that a row gets, by its number
abbrev pub new_of : ℕ → List ℤ → ℕ → Row → Cell
new_of column draws i row = noisy_cell (cell_at column row) (get_or draws i (pos 0))

pub noisy-is : (column : ℕ) (draws : List ℤ) (i : ℕ) (rows : List Row) → noisy_rows column (drop i draws) rows ≡ extended_from (new_of column draws) i rows
noisy-is column draws i [] = refl
noisy-is column draws i (row ∷ rest) =
    let here : get_or (drop i draws) 0 (pos 0) ≡ get_or draws i (pos 0) = get_or-drop i draws 0 (pos 0) ∙ ap (λ (k : ℕ). get_or draws k (pos 0)) (add-zero i) in
    let next : drop 1 (drop i draws) ≡ drop (suc i) draws = drop-drop 1 i draws ∙ ap (λ (k : ℕ). drop k draws) (add-one i) in
    ap₂ (λ (d : ℤ) (l : List Row). noisy_row column row d ∷ l) here (ap (λ (l : List ℤ). noisy_rows column l rest) next ∙ noisy-is column draws (suc i) rest)

-- what the code makes of a row whose label is well-formed is the cell that it gets
label-made : (word : ℕ) → well_formed word ≡ true → label_at word ≡ after_n word
unfolding noise_answer noised
label-made word wf = rw wf (left-after word (after_n word) (forbids_n word) (λ h. after-N word ∙ rw h))

pub cell-made : (columns column : ℕ) (draws : List ℤ) (i : ℕ) (row : Row) → Formed columns column row
    → made_cell (λ number first row. noisy first (get_or draws number (pos 0))) (λ word. label_at word) column i row ≡ new_of column draws i row
cell-made columns column draws i row f =
    ap (λ (label : ℕ). cell (noisy (cell_at column row).value (get_or draws i (pos 0))) label) (label-made (cell_at column row).label f.label)

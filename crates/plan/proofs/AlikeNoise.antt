-- NOISE of alike tables makes alike tables: both rows get the same draw, and a new cell that the plan does not lock comes from one that it does
-- not lock. Assumes nothing.
use Prim.Native.Nat.{ℕ, ◌+◌}
use mathlib.Core.Path.{◌≡◌, sym, ap, ◌∙◌}
use mathlib.Core.Bool.{true}
use mathlib.Core.List.{List}
use lib.IntN.{ℤ}
use lib.ListN.{get_or, drop, get_or-map}
use Rattle.label_discharge.specs.Discharge.{forbids_n, after_n}
use Rattle.noise_value.specs.Noise.{noisy}
use Rattle.plan.specs.Locked.{any_step}
use Rattle.plan.specs.Noise.{noise_row, check_noise, noisy_row, noisy_rows, with_noise}
use Rattle.plan.specs.Numbers.{is_noise}
use Rattle.plan.specs.Secrecy.{Pairwise, none, more, AlikeRows, AlikeMarked}
use Rattle.plan.specs.Table.{Row, Table, blank, cell_at, labels_of, grid}
use Rattle.plan.specs.Verdict.{refuse_if, fine}
use Rattle.plan.specs.declared.Step.{Step}
use Rattle.plan.proofs.Alike.{or-fine, if-fine, Tested, tested, cells-alike}
use Rattle.plan.proofs.LockedLaws.{noise-locked}
use Rattle.plan.proofs.Pairs.{both-append}

module _ (plan : List Step) (column left : ℕ) (used : any_step is_noise plan ≡ true) where
  row-alike : (draw : ℤ) (a b : Row) → Tested plan (noise_row column left) a b → AlikeRows plan (noisy_row column a draw) (noisy_row column b draw)
  row-alike draw a b t =
      let cell = cells-alike plan column t.alike in
      let label : get_or (labels_of a) column 0 ≡ (cell_at column a).label = get_or-map (λ cell. cell.label) a.cells column blank in
      let free = if-fine (forbids_n (get_or (labels_of a) column 0)) 32 t.at column (or-fine (refuse_if (forbids_n (get_or (labels_of a) column 0)) 32 t.at column) _ t.nothing).0 in
      record {
        cells = both-append t.alike.cells (more record {
          labels = ap after_n cell.labels;
          values = λ o. ap (λ (v : ℤ). noisy v draw) (cell.values (noise-locked plan (cell_at column a).label used (sym (ap forbids_n label) ∙ free) o));
        } none);
        mark = t.alike.mark;
      }

  rows_alike : (draws : List ℤ) {xs ys : List Row} → Pairwise (Tested plan (noise_row column left)) xs ys → Pairwise (AlikeRows plan) (noisy_rows column draws xs) (noisy_rows column draws ys)
  rows_alike draws none = none
  rows_alike draws (more {x = a} {y = b} t p) = more (row-alike _ a b t) (rows_alike (drop 1 draws) p)

  pub noise-alike : (draws : List ℤ) {a b : Table} → AlikeMarked plan a b → check_noise column left (grid a) ≡ fine → AlikeMarked plan (with_noise column draws a) (with_noise column draws b)
  unfolding check_noise with_noise
  noise-alike draws t e = record {
    columns = ap (λ (n : ℕ). n + 1) t.columns;
    rows = rows_alike draws (tested plan (noise_row column left) 0 t.rows e);
  }

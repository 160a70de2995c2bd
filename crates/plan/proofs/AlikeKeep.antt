-- KEEP of alike tables makes alike tables. Assumes nothing.
use Prim.Native.Nat.{ℕ, zero, suc}
use mathlib.Core.Path.{refl, ap}
use mathlib.Core.List.{List}
use Rattle.plan.specs.Masks.{in_mask}
use Rattle.plan.specs.Keep.{kept_count, kept_cells, kept_row, kept}
use Rattle.plan.specs.Secrecy.{Pairwise, none, more, AlikeCells, AlikeRows, AlikeMarked}
use Rattle.plan.specs.Table.{Row, Table}
use Rattle.plan.specs.declared.Step.{Step}
use Rattle.plan.proofs.Alike.{cells-alike}
use Rattle.plan.proofs.Pairs.{both-append, both_cond, both-map}

module _ (plan : List Step) (mask : ℕ) where
  pub kept-cells-alike : (columns : ℕ) {a b : Row} → AlikeRows plan a b → Pairwise (AlikeCells plan) (kept_cells mask columns a) (kept_cells mask columns b)
  kept-cells-alike zero r = none
  kept-cells-alike (suc column) r =
      both-append (kept-cells-alike column r) (both_cond (in_mask mask column) (in_mask mask column) refl (more (cells-alike plan column r) none) none)

  pub keep-alike : {a b : Table} → AlikeMarked plan a b → AlikeMarked plan (kept mask a) (kept mask b)
  unfolding kept
  keep-alike {a} {b} t = record {
    columns = ap (kept_count mask) t.columns;
    rows = both-map (kept_row mask a.columns) (kept_row mask b.columns) (λ x y r. record { cells = rw (← t.columns) (kept-cells-alike a.columns r); mark = r.mark }) t.rows;
  }

-- FILTER of alike tables makes alike tables: where nothing is refused, each test reads clear cells. Assumes nothing.
use Prim.Native.Nat.{ℕ}
use mathlib.Core.Path.{◌≡◌, refl, ap₂}
use mathlib.Core.Bool.{Bool, true}
use mathlib.Core.List.{List}
use lib.Dec.{eqb}
use borrow.Author.Tests.{eq-eqb}
use Rattle.plan.specs.Filter.{read_by, check_filter, holds, passes, passing, filtered}
use Rattle.plan.specs.Operands.{operand_value}
use Rattle.plan.specs.Secrecy.{Pairwise, none, more, AlikeMarked}
use Rattle.plan.specs.Table.{Row, Table, grid}
use Rattle.plan.specs.Verdict.{Verdict, fine, first_not_clear}
use Rattle.plan.specs.declared.Comparison.{Comparison}
use Rattle.plan.specs.declared.Operand.{Operand}
use Rattle.plan.specs.declared.Operand.TheVariants.{Constant, Column}
use Rattle.plan.specs.declared.Step.{Step}
use Rattle.plan.proofs.Alike.{Tested, tested, forget, read_same}
use Rattle.plan.proofs.Bools.{or_right}
use Rattle.plan.proofs.Pairs.{both_cond}

-- two tests that agree on each pair keep the same rows
pub both-pass : (R : Row → Row → Type 0) (f g : Row → Bool) → ((x y : Row) → R x y → f x ≡ g y) → {xs ys : List Row} → Pairwise R xs ys
    → Pairwise R (passing f xs) (passing g ys)
both-pass R f g same none = none
both-pass R f g same (more {x} {y} r p) =
    let rest = both-pass R f g same p in
    both_cond (f x) (g y) (same x y r) (more r rest) rest

module _ (plan : List Step) (column : ℕ) (operand : Operand) where
  abbrev test : ℕ → List ℕ → Verdict
  test = first_not_clear (read_by column operand) 31 0

  reads_first : (o : Operand) → read_by column o column ≡ true
  reads_first (Constant value) = eq-eqb column column refl
  reads_first (Column other) = rw (eq-eqb column column refl)

  same_operand : (o : Operand) {a b : Row} → Tested plan (first_not_clear (read_by column o) 31 0) a b → operand_value o a ≡ operand_value o b
  same_operand (Constant value) t = refl
  same_operand (Column other) t =
      read_same plan (read_by column (Column other)) 31 other (or_right (eqb other column) (eqb other other) (eq-eqb other other refl)) t

  same_test : (comparison : Comparison) (a b : Row) → Tested plan test a b → passes column comparison operand a ≡ passes column comparison operand b
  same_test comparison a b t = ap₂ (holds comparison) (read_same plan (read_by column operand) 31 column (reads_first operand) t) (same_operand operand t)

  pub filter_alike : (comparison : Comparison) {a b : Table} → AlikeMarked plan a b → check_filter column operand (grid a) ≡ fine
      → AlikeMarked plan (filtered column comparison operand a) (filtered column comparison operand b)
  unfolding check_filter filtered
  filter_alike comparison t e = record {
    columns = t.columns;
    rows = forget plan test (both-pass (Tested plan test) (passes column comparison operand) (passes column comparison operand) (same_test comparison) (tested plan test 0 t.rows e));
  }

-- JOIN of alike tables makes alike tables: where nothing is refused, the keys are clear. Assumes nothing.
use Prim.Native.Nat.{ℕ, suc, ◌+◌, ◌-◌}
use mathlib.Core.Path.{◌≡◌, refl, ap₂}
use mathlib.Core.List.{List}
use lib.Dec.{eqb}
use lib.ListN.{length}
use borrow.Author.Tests.{eq-eqb}
use Rattle.plan.specs.Join.{check_join, matches, joined_to, joined_rows, joined}
use Rattle.plan.specs.Secrecy.{Pairwise, none, more, AlikeRows, AlikeMarked}
use Rattle.plan.specs.Table.{Row, Table, cell_at, grid}
use Rattle.plan.specs.Verdict.{Verdict, fine, first_not_clear, not_clear}
use Rattle.plan.specs.declared.Step.{Step}
use Rattle.comparison.specs.Comparison.{equal}
use Rattle.plan.proofs.Alike.{or-fine, Tested, tested, read_same}
use Rattle.plan.proofs.Pairs.{both-append, both-take, both-drop, both_cond}

module _ (plan : List Step) (a b : ℕ) where
  abbrev key_test : ℕ → ℕ → List ℕ → Verdict
  key_test key = first_not_clear (λ c. eqb c key) 31 0

  key-same : (key : ℕ) {x y : Row} → Tested plan (key_test key) x y → (cell_at key x).value ≡ (cell_at key y).value
  key-same key t = read_same plan (λ c. eqb c key) 31 key (eq-eqb key key refl) t

  joined-to : {l m : Row} → Tested plan (key_test a) l m → {xs ys : List Row} → Pairwise (Tested plan (key_test b)) xs ys
      → Pairwise (AlikeRows plan) (joined_to a b l xs) (joined_to a b m ys)
  joined-to t none = none
  joined-to {l} {m} t (more {x} {y} r p) =
      let rest = joined-to t p in
      let row = both-append t.alike.cells (both-append (both-take b r.alike.cells) (both-drop (suc b) r.alike.cells)) in
      both_cond (matches a b l x) (matches a b m y) (ap₂ equal (key-same a t) (key-same b r)) (more record { cells = row; mark = t.alike.mark } rest) rest

  joined-rows : {ls ms : List Row} → Pairwise (Tested plan (key_test a)) ls ms → {xs ys : List Row} → Pairwise (Tested plan (key_test b)) xs ys
      → Pairwise (AlikeRows plan) (joined_rows a b ls xs) (joined_rows a b ms ys)
  joined-rows none q = none
  joined-rows (more t p) q = both-append (joined-to t q) (joined-rows p q)

  pub join-alike : {l m x y : Table} → AlikeMarked plan l m → AlikeMarked plan x y → check_join a b (grid l) (grid x) ≡ fine
      → AlikeMarked plan (joined a b l x) (joined a b m y)
  unfolding check_join joined
  join-alike {l} {m} {x} {y} t u e =
      let h = or-fine (not_clear (λ c. eqb c a) 31 0 (grid l)) (not_clear (λ c. eqb c b) 31 (length (grid l)) (grid x)) e in
      record {
        columns = ap₂ (λ (i j : ℕ). i + (j - 1)) t.columns u.columns;
        rows = joined-rows (tested plan (key_test a) 0 t.rows h.0) (tested plan (key_test b) (length (grid l)) u.rows h.1);
      }

-- A step that fits, by the widths of the two tables on top of the stack. Assumes nothing.
use Prim.Native.Nat.{ℕ, zero, suc, ◌-◌, ◌≤◌}
use mathlib.Core.Path.{◌≡◌, refl, ◌∙◌}
use mathlib.Core.Bool.{Bool, true, false, cond}
use mathlib.Core.List.{List}
use native.Mathlib.Omega.{arith}
use lib.Dec.{ltb}
use lib.ListN.{get_or}
use borrow.Author.Tests.{le-leb, le-ltb, lt-ltb, ltb-true, ltb-false}
use Rattle.std.specs.Prelude.{Some, None, Ok, Err, ok_or}
use Rattle.cells.specs.declared.DoesNotFit.{DoesNotFit}
use Rattle.widths.specs.promises.Widths.{made_width}
use Rattle.live_tables.specs.declared.LiveTable.{LiveTable}
use Rattle.live_tables.specs.declared.Stack.{Stack}
use Rattle.memory.specs.promises.Stack.{ready, Ready, widths_to, live_at, no_table, live_table}
use Rattle.memory.specs.promises.Steps.{fit}
use Rattle.plan.specs.Widths.{enough_tables}
use Rattle.plan.specs.declared.Step.{Step}
use Rattle.widths.proofs.Laws.{two-looked-at}
use Rattle.memory.proofs.Stacks.{is-ready}

-- the widths on the stack, counted from the top
widths-get : (stack : Stack) (n k : ℕ) → get_or (widths_to stack n) k 0 ≡ cond (ltb k n) (get_or stack.columns (n - 1 - k) 0) 0
widths-get stack zero k = rw (le-ltb k 0 (omega arith))
widths-get stack (suc n) zero = let e : suc n - 1 - 0 ≡ n = omega arith in rw (lt-ltb 0 (suc n) (omega arith), e)
widths-get stack (suc n) (suc k) = let e : suc n - 1 - suc k ≡ n - 1 - k = omega arith in widths-get stack n k ∙ rw e (either (ltb k n) refl)
  where
    either : (b : Bool) → ltb k n ≡ b → cond b (get_or stack.columns (n - 1 - k) 0) 0 ≡ cond (ltb (suc k) (suc n)) (get_or stack.columns (n - 1 - k) 0) 0
    either true h = rw (lt-ltb (suc k) (suc n) (omega (arith, ltb-true k n h)))
    either false h = rw (le-ltb (suc k) (suc n) (omega (arith, ltb-false k n h)))

module _ {values labels : ℕ} (stack : Stack) (r : Ready values labels stack) where
  live-width : (below : ℕ) → get_or (widths_to stack stack.depth) below 0 ≡ (live_table stack below).columns
  unfolding live_table
  live-width below = widths-get stack stack.depth below ∙ rw (le-leb stack.depth 3 r.depth) (either (ltb below stack.depth))
    where
      either : (b : Bool) → cond b (get_or stack.columns (stack.depth - 1 - below) 0) 0 ≡ (cond b (live_at stack (stack.depth - 1 - below)) no_table).columns
      either true = refl
      either false = refl

  live-narrow : (below : ℕ) → (live_table stack below).columns ≤ 8
  unfolding live_table
  live-narrow below = rw (le-leb stack.depth 3 r.depth) (either (ltb below stack.depth) refl)
    where
      either : (b : Bool) → ltb below stack.depth ≡ b → (cond b (live_at stack (stack.depth - 1 - below)) no_table).columns ≤ 8
      either true h = r.columns _ (omega (arith, r.depth, ltb-true below stack.depth h))
      either false h = omega arith

ok_or-cond : (b : Bool) (m : ℕ) (wrong : DoesNotFit) → ok_or (cond b (Some m) None) wrong ≡ cond b (Ok m) (Err wrong)
ok_or-cond true m wrong = refl
ok_or-cond false m wrong = refl

-- what the code asks of the two widths is what is asked of the stack
pub fit_is : (step : Step) (tables : List ℕ) (values labels : ℕ) (stack : Stack) {left right : LiveTable} → ready values labels stack ≡ true → enough_tables step stack.depth ≡ true
    → left ≡ live_table stack 1 → right ≡ live_table stack 0 → ok_or (made_width step tables left.columns right.columns) (record {}) ≡ fit step tables values labels stack
fit_is step tables values labels stack e f l r =
    let ok = is-ready values labels stack e in
    let two = two-looked-at step tables (widths_to stack stack.depth) in
    rw (l, r, le-leb _ 8 (live-narrow stack ok 1), le-leb _ 8 (live-narrow stack ok 0), e, f, two.0, two.1, live-width stack ok 0, live-width stack ok 1) (ok_or-cond _ _ (record {}))

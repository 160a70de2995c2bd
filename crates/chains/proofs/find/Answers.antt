-- `chains::find` meets its contract. Assumes nothing.
use Prim.Native.Nat.{ℕ}
use mathlib.Core.Path.{◌≡◌, refl, sym, ◌∙◌}
use mathlib.Core.Bool.{Bool, true, false, true≢false}
use native.Mathlib.Omega.{arith}
use lib.ListN.{length, replicate, length-replicate}
use Rattle.cells.specs.promises.Cells.{cells_of}
use Rattle.cells.specs.promises.Search.{table_within}
use Rattle.cells.proofs.Searching.{within-table}
use Rattle.chains.proofs.Leading.{leader-before}
use Rattle.chains.proofs.find.Goals as goal
use Rattle.chains.proofs.find.Goals.{Else-not-within}

clash : {b : Bool} {A : Type 0} → b ≡ true → b ≡ false → A
clash t f = absurd (true≢false (sym t ∙ f))

pub returns-then-not-within : goal.returns-then-not-within
returns-then-not-within c =
    let f = sym c.within.ensures ∙ c.if-not-within.true in
    record { misfit = λ _. refl; leaders = λ t. clash t f; others = λ t. clash t f }

-- the table is within the values
fits : (c : Else-not-within) → let a = c.args in table_within a.table.at a.table.rows a.table.columns (length a.values.now) ≡ true
fits c = sym c.within.ensures ∙ c.if-not-within.false

pub leaders-first-requires : goal.leaders-first-requires
leaders-first-requires c =
    let a = c.args in
    let w = within-table a.table.at a.table.rows a.table.columns _ (fits c) in
    record { few-rows = w.0; few-columns = w.1; within = w.2 }

pub chain-next-requires : goal.chain-next-requires
chain-next-requires c =
    let a = c.args in
    let w = within-table a.table.at a.table.rows a.table.columns _ (fits (goal.at.chain-next-requires c).Else-not-within) in
    let led = c.leaders-first.ensures in
    let zeros = replicate {A = ℕ} (length a.values.now) 0 in
    let known = led.are zeros (omega (arith, w.2, length-replicate {A = ℕ} (length a.values.now) 0)) in
    (w.0, led.full, λ row h. omega (arith, w.0, leader-before a.keys a.table.columns a.table.rows a.table.at (cells_of a.values.now zeros) c.leaders-first.result known row h))

pub returns : goal.returns
returns c = let t = fits (goal.at.returns c).Else-not-within in record { misfit = λ f. clash t f; leaders = λ _. c.leaders-first.ensures; others = λ _. c.chain-next.ensures }

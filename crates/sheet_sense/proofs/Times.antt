-- How often a mark stands in rows. Where none stands twice, sheets are rows. Assumes nothing.
use Prim.Native.Nat.{ℕ, suc, ◌+◌, ◌≤◌}
use mathlib.Core.Path.{◌≡◌, refl}
use mathlib.Core.Bool.{Bool, true, false, cond, ◌||◌}
use mathlib.Core.List.{List, [], ◌∷◌, ◌++◌, map}
use native.Mathlib.Omega.{arith}
use lib.Dec.{eqb}
use lib.ListN.{length}
use borrow.Author.Tests.{eq-eqb}
use Rattle.plan.specs.Group.{groups_after, any_mark, distinct_after, group_size}
use Rattle.plan.specs.Sense.Groups.{Whole}
use Rattle.plan.specs.Sense.Rows.{Sifted, keeps, drops}
use Rattle.plan.specs.Sense.Trace.{total}
use Rattle.plan.specs.Table.{Row, Each}
use Rattle.plan.proofs.AboutGroups.{groups-whole}
use Rattle.plan.proofs.SenseEach.{each_weaken}
use Rattle.sheet_sense.specs.Counted.{SheetForEach}

-- one where a test holds
abbrev pub one : Bool → ℕ
one b = cond b 1 0

-- how many rows have a mark
abbrev pub times : ℕ → List Row → ℕ
times mark rows = total (λ row. one (eqb row.mark mark)) rows

-- no mark stands twice
abbrev pub AtMostOnce : List Row → Type 0
AtMostOnce rows = (mark : ℕ) → times mark rows ≤ 1

-- rows one after the other have a mark as often as both together
pub times-append : (mark : ℕ) (rows others : List Row) → times mark (rows ++ others) ≡ times mark rows + times mark others
times-append mark [] others = omega arith
times-append mark (row ∷ rest) others = omega (arith, times-append mark rest others)

-- rows that some are sifted from have each mark at least as often
pub sifted-times : (mark : ℕ) {test : Row → Bool} {xs us : List Row} → Sifted test xs us → times mark xs ≤ times mark us
sifted-times mark Sifted.end = omega arith
sifted-times mark (keeps e s) = omega (arith, sifted-times mark s)
sifted-times mark (drops e s) = omega (arith, sifted-times mark s)

-- a test that would make two of one fails
not-both : (b : Bool) (n : ℕ) → suc n + one b ≤ 1 → b ≡ false
not-both true n h = absurd (omega arith)
not-both false n h = refl

-- one where either of two tests holds is at most one for each
one-or : (a b : Bool) → one (a || b) ≤ one a + one b
one-or true b = omega arith
one-or false b = omega arith

-- marks that stand once, and were not seen, all count
all-count : (seen : List ℕ) (rows : List Row) → ((mark : ℕ) → times mark rows + one (any_mark mark seen) ≤ 1)
    → distinct_after seen (map (λ row. row.mark) rows) ≡ length rows
all-count seen [] h = refl
all-count seen (row ∷ rest) h =
    let here = rw (eq-eqb row.mark row.mark refl) at (h row.mark) in
    let new = not-both (any_mark row.mark seen) (times row.mark rest) (omega (arith, here)) in
    let later = all-count (row.mark ∷ seen) rest (λ mark. omega (arith, h mark, one-or (eqb row.mark mark) (any_mark mark seen))) in
    rw new (omega (arith, later))

-- rows with no mark twice are as many sheets
pub rows-count : (rows : List Row) → AtMostOnce rows → SheetForEach rows
unfolding group_size
rows-count rows h = all-count [] rows (λ mark. omega (arith, h mark))

-- and so is each of their groups, which is sifted from them
pub groups-count : (keys columns : ℕ) (rows : List Row) → AtMostOnce rows → Each SheetForEach (groups_after keys columns [] rows)
groups-count keys columns rows h =
    each_weaken (Whole keys columns rows) SheetForEach counted (groups_after keys columns [] rows) (groups-whole keys columns rows)
  where
    counted : (group : List Row) → Whole keys columns rows group → SheetForEach group
    counted [] w = absurd w
    counted (first ∷ rest) w = rows-count (first ∷ rest) (λ mark. omega (arith, sifted-times mark w, h mark))

-- `pairs::join_rows` meets its contract. Assumes nothing.
use mathlib.Core.Path.{◌≡◌, refl, sym, ◌∙◌}
use mathlib.Core.Bool.{Bool, true, false, true≢false}
use lib.ListN.{length}
use Rattle.std.specs.Prelude.{Ok}
use Rattle.cells.specs.promises.Lent.{memory_held}
use Rattle.cells.specs.promises.Work.{Memory}
use Rattle.pairs.specs.declared.Side.{Side}
use Rattle.pairs.specs.promises.Pairs.{sides_fit, marks_fit, fits_all, RowsJoined}
use Rattle.pairs.proofs.Fitting.{to-sides, to-marks-below}
use Rattle.pairs.proofs.join_rows.Goals as goal
use Rattle.pairs.proofs.join_rows.Goals.{Else-not-marks_fit, Else-not-fit}

clash : {b : Bool} {A : Type 0} → b ≡ true → b ≡ false → A
clash t f = absurd (true≢false (sym t ∙ f))

-- arguments that do not fit
unjoined : (m : Memory) (left right : Side) → fits_all left right m ≡ false → RowsJoined left right m (Ok 0) m
unjoined m left right f = record { misfit = λ _. (refl, refl); joined = λ t. clash t f }

-- the tables fit, and their marks
fits : (c : Else-not-fit) → let a = c.args in sides_fit (length a.cells.now.values.now) (length a.cells.now.labels.now) a.sides.left a.sides.right ≡ true
fits c = sym c.fit.ensures ∙ c.if-not-fit.false

marked : (c : Else-not-marks_fit) → let a = c.args in marks_fit (length a.marks.now) a.sides.left ≡ true
marked c = sym c.marks_fit.ensures ∙ c.if-not-marks_fit.false

pub returns-then-not-fit-clause-joined : goal.returns-then-not-fit-clause-joined
returns-then-not-fit-clause-joined c =
    let a = c.args in
    unjoined (memory_held a.cells.now a.marks.now) a.sides.left a.sides.right (rw (sym c.fit.ensures ∙ c.if-not-fit.true))

pub returns-then-not-marks_fit-clause-joined : goal.returns-then-not-marks_fit-clause-joined
returns-then-not-marks_fit-clause-joined c =
    let a = c.args in
    unjoined (memory_held a.cells.now a.marks.now) a.sides.left a.sides.right
    (rw (fits (goal.at.returns-then-not-marks_fit-clause-joined c).Else-not-fit) (sym c.marks_fit.ensures ∙ c.if-not-marks_fit.true))

pub join_all-requires : goal.join_all-requires
join_all-requires c =
    let a = c.args in
    record {
      fit = to-sides _ _ a.sides.left a.sides.right (fits (goal.at.join_all-requires c).Else-not-fit);
      marks = to-marks-below _ a.sides.left (marked (goal.at.join_all-requires c).Else-not-marks_fit);
    }

pub returns-clause-joined : goal.returns-clause-joined
returns-clause-joined c =
    let a = c.args in
    let t : fits_all a.sides.left a.sides.right (memory_held a.cells.now a.marks.now) ≡ true = rw (fits (goal.at.returns-clause-joined c).Else-not-fit) (marked (goal.at.returns-clause-joined c).Else-not-marks_fit) in
    record { misfit = λ f. clash t f; joined = λ _. c.join_all.ensures.joined }

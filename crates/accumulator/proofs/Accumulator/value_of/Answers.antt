-- `accumulator::Accumulator::value_of` meets its contract. Assumes nothing.
use mathlib.Core.Path.{◌≡◌, refl, ap, ◌∙◌}
use mathlib.Core.Bool.{Bool, true, false, cond}
use lib.IntN.{ℤ}
use Rattle.rounding.specs.Rounding.{average}
use Rattle.value.specs.Range.{OVER, settled}
use Rattle.value.proofs.Laws.Range.{over-out, settled-out}
use Rattle.value.proofs.Machine.{back_is, answered}
use Rattle.accumulator.proofs.Accumulator.value_of.Goals as goal

-- OVER settled is OVER
guarded : (t : Bool) (z : ℤ) → settled (cond t z OVER) ≡ cond t (settled z) OVER
guarded true z = refl
guarded false z = settled-out OVER over-out

pub returns-in-Sum : goal.returns-in-Sum
unfolding OVER
returns-in-Sum c =
    let a = c.args.self in
    let total = ap (λ z. cond a.exact z OVER) (back_is a.total c.struct_told-1.given.1.1.0.1) in
    answered c.settled.type_inv (c.settled.ensures ∙ ap settled (answered c.chosen.type_inv (c.chosen.ensures ∙ total)))
    ∙ rw c.in-Sum.is (guarded a.exact a.total)

pub returns-in-Avg : goal.returns-in-Avg
unfolding OVER
returns-in-Avg c =
    let a = c.args.self in
    let total = ap (λ z. average z a.rows) (back_is a.total c.struct_told-in-Avg-1.given.1.1.0.1) in
    answered c.chosen-in-Avg.type_inv (c.chosen-in-Avg.ensures ∙ ap (λ z. cond a.exact z OVER) (answered c.average.type_inv (c.average.ensures ∙ total)))
    ∙ rw c.in-Avg.is

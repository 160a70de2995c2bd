-- `arithmetic::plus` meets its contract: the sum of two values fits, and is settled.
-- Assumes nothing.
use mathlib.Core.Path.{◌≡◌, refl, sym, ap, ap₂, ◌∙◌}
use mathlib.Core.Bool.{Bool, cond}
use lib.IntN.{ℤ, pos, ◌+ℤ◌}
use mir.Facts.{to_z-of_z}
use Rattle.value.specs.Range.{both_in_range, OVER, settled, of_both}
use Rattle.arithmetic.specs.Arithmetic.{plus}
use Rattle.value.proofs.Machine.{back, answered, said₂}
use Rattle.value.proofs.Sizes.{sum_fits}
use Rattle.value.proofs.Operation.{operands-fit, operands-settled}
use Rattle.arithmetic.proofs.plus.Goals as goal
use Rattle.arithmetic.proofs.plus.Goals.{After-chosen-2}

module _ (c : After-chosen-2) where
  abbrev a : ℤ
  a = c.args.a

  abbrev b : ℤ
  b = c.args.b

  abbrev test : Bool
  test = c.both_in_range-both.result

  tested : test ≡ both_in_range a b
  tested =
      said₂ both_in_range c.ranges.a c.ranges.b c.both_in_range-both.ensures

  -- the operands chosen
  operands : (back c.chosen.result +ℤ back c.chosen-2.result) ≡ (cond test a OVER +ℤ cond test b (pos 0))
  unfolding OVER
  operands =
      let f = c.ranges in
      ap₂ ◌+ℤ◌
      (answered c.chosen.type_inv (c.chosen.ensures ∙ ap (λ z. cond test z OVER) (to_z-of_z f.a)))
      (answered c.chosen-2.type_inv (c.chosen-2.ensures ∙ ap (λ z. cond test z (pos 0)) (to_z-of_z f.b)))

over : OVER +ℤ pos 0 ≡ OVER
unfolding OVER
over = refl

pub overflow_add-chosen : goal.overflow_add-chosen
overflow_add-chosen c =
    rw (operands c) (operands-fit ◌+ℤ◌ over (test c) (a c) (b c) (λ h. sum_fits (a c) (b c) (sym (tested c) ∙ h)))

pub returns : goal.returns
unfolding plus of_both
returns c =
    answered c.settled.type_inv (c.settled.ensures ∙ ap settled (to_z-of_z (overflow_add-chosen (goal.at.returns c).After-chosen-2) ∙ operands (goal.at.returns c).After-chosen-2))
    ∙ rw (← tested (goal.at.returns c).After-chosen-2) (operands-settled ◌+ℤ◌ over (test (goal.at.returns c).After-chosen-2) (a (goal.at.returns c).After-chosen-2) (b (goal.at.returns c).After-chosen-2))

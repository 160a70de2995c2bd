-- `noise_value::noisy` meets its contract: the sum of a value and a draw that is near fits, and is settled. Assumes nothing.
use mathlib.Core.Path.{◌≡◌, refl, sym, ap, ap₂, ◌∙◌}
use mathlib.Core.Bool.{Bool, true, false, cond, ◌&&◌, and-eq-true_iff}
use mir.Syntax.{w64}
use mir.Val.{SFits}
use mir.Facts.{to_z-of_z}
use lib.IntN.{ℤ, pos, ◌+ℤ◌}
use Rattle.value.specs.Range.{in_range, OVER, settled}
use Rattle.noise_value.specs.Noise.{noisy}
use Rattle.value.proofs.Machine.{back, answered, said}
use Rattle.value.proofs.Operation.{operands-fit, operands-settled}
use Rattle.noise_value.proofs.Laws.{is_near, near_fits, tested-true, tested-false}
use Rattle.noise_value.proofs.noisy.Goals as goal
use Rattle.noise_value.proofs.noisy.Goals.{After-chosen-2}

over : OVER +ℤ pos 0 ≡ OVER
unfolding OVER
over = refl

-- the definition, by the test of the code
by-test : (t : Bool) (v d : ℤ) → (in_range v && is_near d) ≡ t → cond t (settled (v +ℤ d)) OVER ≡ noisy v d
by-test true v d e = sym (tested-true v d e)
by-test false v d e = sym (tested-false v d e)

module _ (c : After-chosen-2) where
  abbrev value : ℤ
  value = c.args.value

  abbrev draw : ℤ
  draw = c.args.draw

  abbrev test : Bool
  test = c.in_range.result && c.near.result

  tested : (in_range value && is_near draw) ≡ test
  tested =
      let f = c.ranges in
      sym (ap₂ ◌&&◌ (said in_range f.value c.in_range.ensures) (said is_near f.draw c.near.ensures))

  -- the operands chosen
  operands : (back c.chosen.result +ℤ back c.chosen-2.result) ≡ (cond test value OVER +ℤ cond test draw (pos 0))
  unfolding OVER
  operands =
      let f = c.ranges in
      ap₂ ◌+ℤ◌
      (answered c.chosen.type_inv (c.chosen.ensures ∙ ap (λ z. cond test z OVER) (to_z-of_z f.value)))
      (answered c.chosen-2.type_inv (c.chosen-2.ensures ∙ ap (λ z. cond test z (pos 0)) (to_z-of_z f.draw)))

  fits : test ≡ true → SFits w64 (value +ℤ draw)
  fits h = let both = (and-eq-true_iff _ _).0 (tested ∙ h) in near_fits value draw both.0 both.1

pub overflow_add-chosen : goal.overflow_add-chosen
overflow_add-chosen c = rw (operands c) (operands-fit ◌+ℤ◌ over (test c) (value c) (draw c) (fits c))

pub returns : goal.returns
returns c =
    answered c.settled.type_inv (c.settled.ensures ∙ ap settled (to_z-of_z (overflow_add-chosen (goal.at.returns c).After-chosen-2) ∙ operands (goal.at.returns c).After-chosen-2))
    ∙ operands-settled ◌+ℤ◌ over (test (goal.at.returns c).After-chosen-2) (value (goal.at.returns c).After-chosen-2) (draw (goal.at.returns c).After-chosen-2)
    ∙ by-test (test (goal.at.returns c).After-chosen-2) (value (goal.at.returns c).After-chosen-2) (draw (goal.at.returns c).After-chosen-2) (tested (goal.at.returns c).After-chosen-2)

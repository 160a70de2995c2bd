-- `value::choice::folded` meets its contract.
-- Assumes nothing.
use lib.IntN.{ℤ, negsuc, ◌-ℤ◌}
use mir.Syntax.{w64}
use mir.Val.{SFits}
use mir.Facts.{to_z-of_z}
use borrow.Author.Rules.{sfits_of}
use Rattle.value.specs.Division.{folded}
use Rattle.value.proofs.Folded.{mag-turned}
use Rattle.value.proofs.Machine.{back_is}
use Rattle.value.proofs.choice.folded.Goals as goal
use Rattle.value.proofs.choice.folded.Goals.{Start}

-- −1 − v fits where v does
turned-fits : (v : ℤ) → SFits w64 v → SFits w64 (negsuc 0 -ℤ v)
turned-fits v f = sfits_of (rw (mag-turned v) f.sfits)

pub overflow_sub-v : goal.overflow_sub-v
overflow_sub-v c = rw (to_z-of_z c.ranges.v) (turned-fits c.args.v c.ranges.v)

pub returns : goal.returns
unfolding folded
returns c =
    rw (back_is c.chosen.result c.chosen.type_inv, c.chosen.ensures, to_z-of_z (overflow_sub-v (goal.at.returns c).Start), to_z-of_z c.ranges.v)

-- `plan_check::stack::Widths::made_width` meets its contract. Assumes nothing.
use mathlib.Core.Path.{◌∙◌}
use Rattle.plan_check.proofs.Stacks.{width_is}
use Rattle.plan_check.proofs.stack.Widths.made_width.Goals as goal

pub returns : goal.returns
returns c =
    c.made_width.ensures
    ∙ width_is _ _ _ _ _ c.width.ensures.value c.width-2.ensures.value c.width.ensures.narrow c.width-2.ensures.narrow

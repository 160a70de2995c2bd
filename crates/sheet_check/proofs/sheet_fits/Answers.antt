-- `sheet_check::sheet_fits` meets its contract. Assumes nothing.
use Prim.Native.Nat.{ℕ}
use mathlib.Core.Path.{ap, ap₂, ◌∙◌}
use mathlib.Core.Bool.{Bool, not, ◌&&◌}
use borrow.Author.Rules.{sfits_of}
use Rattle.plan.specs.Table.{clear}
use Rattle.value.specs.Pattern.{signed_of, negative}
use Rattle.value.proofs.Machine.{said}
use Rattle.sheet_check.proofs.sheet_fits.Goals as goal

pub returns : goal.returns
returns c =
    let sign = said negative (sfits_of c.signed-value.type_inv) c.negative.ensures ∙ ap negative (c.signed-value.ensures ∙ ap signed_of c.eight.ensures) in
    ap₂ (λ (b : Bool) (label : ℕ). not b && clear label) sign c.four.ensures

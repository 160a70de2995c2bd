-- `pairs::Sides::fit` meets its contract. Assumes nothing.
use mathlib.Core.Path.{◌≡◌, sym, ap₂, ◌∙◌}
use mathlib.Core.Bool.{◌&&◌, and-eq-true_iff}
use native.Mathlib.Omega.{arith}
use Rattle.pairs.specs.promises.Pairs.{side_fits, sides_fit}
use Rattle.pairs.proofs.Fitting.{side-parts}
use Rattle.pairs.proofs.Sides.fit.Goals as goal
use Rattle.pairs.proofs.Sides.fit.Goals.{After-fits-2}

-- what was tested
both : (c : After-fits-2) → (side_fits c.args.self.left && side_fits c.args.self.right) ≡ (c.fits.result && c.fits-2.result)
both c = sym (ap₂ ◌&&◌ c.fits.ensures c.fits-2.ensures)

pub returns-then-not-fits : goal.returns-then-not-fits
unfolding sides_fit
returns-then-not-fits c = rw (both (goal.at.returns-then-not-fits c).After-fits-2 ∙ c.if-not-fits.true)

pub overflow_add-result : goal.overflow_add-result
overflow_add-result c =
    let s = c.args.self in
    let two = (and-eq-true_iff (side_fits s.left) (side_fits s.right)).0 (both (goal.at.overflow_add-result c).After-fits-2 ∙ c.if-not-fits.false) in
    omega (arith, (side-parts s.left two.0).1, (side-parts s.right two.1).1)

pub returns : goal.returns
unfolding sides_fit
returns c = rw (both (goal.at.returns c).After-fits-2 ∙ c.if-not-fits.false)

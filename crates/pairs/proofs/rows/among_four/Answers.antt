-- `pairs::rows::among_four` meets its contract. Assumes nothing.
use Prim.Native.Nat.{◌+◌, ◌*◌}
use mathlib.Core.Path.{◌≡◌}
use mathlib.Core.Bool.{false}
use native.Mathlib.Omega.{arith}
use lib.IntN.{pos}
use lib.ListN.{get_or}
use borrow.Author.Rules.{sfits_of}
use Rattle.value.specs.Equality.{eq_z}
use Rattle.pairs.proofs.Keys.{unlike-at, each-of-four, all-false}
use Rattle.pairs.proofs.rows.among_four.Goals as goal

pub returns : goal.returns
returns c = λ e.
    let a = c.args in
    let f = c.ranges.key in
    let none = all-false _ _ _ _ e in
    let v = a.values.now in
    each-of-four (λ j. eq_z a.key (get_or v (a.at + j * a.step) (pos 0)) ≡ false)
    (unlike-at v a.key (omega arith) f (sfits_of c.first-1.given) none.0)
    (unlike-at v a.key (omega arith) f (sfits_of c.second-1.given) none.1)
    (unlike-at v a.key (omega arith) f (sfits_of c.third-1.given) none.2)
    (unlike-at v a.key (omega arith) f (sfits_of c.fourth-1.given) none.3)

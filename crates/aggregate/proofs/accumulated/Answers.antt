-- `aggregate::accumulated` meets its contract: a sum that has room and one value more fit, and a sum and zero do.
-- Assumes nothing.
use mathlib.Core.Path.{◌≡◌, refl, ap₂, ◌∙◌}
use mathlib.Core.Bool.{Bool, true, false, cond, ◌&&◌}
use lib.IntN.{ℤ, pos, ◌+ℤ◌, +ℤ_idr}
use mir.Syntax.{w64}
use mir.Val.{SFits}
use mir.Facts.{to_z-of_z}
use Rattle.value.specs.Range.{in_range}
use Rattle.aggregate.specs.Aggregate.{has_room, accumulated}
use Rattle.aggregate.proofs.Room.{total-fits}
use Rattle.value.proofs.Machine.{back, answered, said}
use Rattle.aggregate.proofs.accumulated.Goals as goal
use Rattle.aggregate.proofs.accumulated.Goals.{After-chosen}

-- a value more, or zero
more : (t : Bool) (total v : ℤ) → total +ℤ cond t v (pos 0) ≡ cond t (total +ℤ v) total
more true total v = refl
more false total v = +ℤ_idr total

module _ (c : After-chosen) where
  abbrev total : ℤ
  total = c.args.total

  abbrev v : ℤ
  v = c.args.v

  -- the test, and what is added
  test : (c.in_range.result && c.has_room.result) ≡ (in_range v && has_room total)
  test =
      let f = c.ranges in
      ap₂ ◌&&◌ (said in_range f.v c.in_range.ensures) (said has_room f.total c.has_room.ensures)

  sum : back total +ℤ back c.chosen.result ≡ accumulated total v
  unfolding accumulated
  sum =
      let f = c.ranges in
      ap₂ ◌+ℤ◌ (to_z-of_z f.total) (answered c.chosen.type_inv (c.chosen.ensures ∙ ap₂ (λ t z. cond t z (pos 0)) test (to_z-of_z f.v)))
      ∙ more (in_range v && has_room total) total v

  fits : SFits w64 (accumulated total v)
  unfolding accumulated
  fits = go (in_range v && has_room total) refl
    where
      go : (t : Bool) → (in_range v && has_room total) ≡ t → SFits w64 (cond t (total +ℤ v) total)
      go true e = total-fits v total e
      go false e = c.ranges.total

pub overflow_add-result : goal.overflow_add-result
overflow_add-result c = rw (sum c) (fits c)

pub returns : goal.returns
returns c = rw (sum c) (to_z-of_z (fits c))

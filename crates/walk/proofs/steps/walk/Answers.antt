-- `walk::steps::walk` meets its contract. Assumes nothing.
use mathlib.Core.Path.{refl, sym, ◌∙◌}
use Rattle.walk.proofs.steps.walk.Goals as goal

pub returns-then-not-has_room-clause-walked : goal.returns-then-not-has_room-clause-walked
returns-then-not-has_room-clause-walked c = (sym c.has_room.ensures ∙ c.if-not-has_room.true, refl, refl)

pub take_steps-requires-clause-room : goal.take_steps-requires-clause-room
take_steps-requires-clause-room c = sym c.has_room.ensures ∙ c.if-not-has_room.false

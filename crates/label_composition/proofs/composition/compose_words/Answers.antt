-- `label_composition::composition::compose_words` meets its contract. Assumes nothing.
use Rattle.label_composition.specs.Composition.{transforms_both, aggregates_both, noise_both}
use Rattle.label_composition.proofs.Composed.{stages-lt, transforms-lt, noise-lt, aggregates-lt, digits_lt, minimum-lt}
use Rattle.label_composition.proofs.composition.compose_words.Goals as goal

pub pack-requires : goal.pack-requires
unfolding transforms_both noise_both aggregates_both
pack-requires c =
    let a = c.args.a in
    let b = c.args.b in (
      rw (c.field.ensures, c.field-2.ensures) (stages-lt a b),
      rw c.allowed_both.ensures (transforms-lt a b),
      rw c.allowed_both-2.ensures (noise-lt a b),
      rw c.allowed_both-3.ensures (aggregates-lt a b),
      rw c.digits_both.ensures (digits_lt a b),
      rw c.minimum_both.ensures (minimum-lt a b),
    )

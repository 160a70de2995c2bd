-- What NOISE asks beyond what every step asks: labels that are labels. The label library answers then.
use Rattle.std.specs.Prelude.{ℕ, Bool, ◌&&◌}
use Rattle.cells.specs.promises.Work.{Memory}
use Rattle.live_tables.specs.declared.Stack.{Stack}
use Rattle.memory.specs.promises.Stack.{top_formed}
use Rattle.memory.specs.promises.Steps.{fits_in}
use Rattle.plan.specs.Supply.{Supply}
use Rattle.plan.specs.declared.Step.TheVariants.{Noise}

abbrev pub noise_fits : ℕ → Supply → Memory → Stack → Bool
noise_fits column supply memory stack = fits_in (Noise column) supply memory stack && top_formed column memory stack

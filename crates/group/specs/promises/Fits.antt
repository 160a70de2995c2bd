-- What GROUP asks beyond what every step asks: labels that are labels. The label library answers then.
use Rattle.std.specs.Prelude.{ℕ, Bool, ◌&&◌}
use Rattle.cells.specs.promises.Work.{Memory}
use Rattle.live_tables.specs.declared.Stack.{Stack}
use Rattle.memory.specs.promises.Stack.{top_formed}
use Rattle.memory.specs.promises.Steps.{fits_in}
use Rattle.plan.specs.Supply.{Supply}
use Rattle.plan.specs.declared.Aggregate.{Aggregate}
use Rattle.plan.specs.declared.Step.TheVariants.{Group}

-- every label of the column that is aggregated is well-formed
abbrev pub group_fits : ℕ → Aggregate → ℕ → Supply → Memory → Stack → Bool
group_fits keys aggregate column supply memory stack = fits_in (Group keys aggregate column) supply memory stack && top_formed column memory stack

-- The labels of work memory after the overlays were composed onto those of the table that a step has pushed, and these read under the rule year.
use Rattle.std.specs.Prelude.{ℕ, List, [], ◌∷◌}
use Rattle.floors.specs.promises.Flooring.{after_floor}
use Rattle.live_tables.specs.declared.LiveTable.{LiveTable}
use Rattle.live_tables.specs.declared.Stack.{Stack}
use Rattle.live_tables.specs.promises.Live.{live_table}
use Rattle.overlay_reader.specs.promises.Composing.{after_overlay}
use Rattle.plan.specs.declared.Step.{Step}
use Rattle.plan.specs.declared.Step.TheVariants.{Scan, Union, Join, Filter, Keep, Apply, Group, Noise}

-- one overlay after the other, onto the container's table with this number, which stands there
abbrev pub after_overlays : List (List ℕ) → ℕ → LiveTable → List ℕ → List ℕ
after_overlays [] table live labels = labels
after_overlays (overlay ∷ rest) table live labels =
    after_overlays rest table live (after_overlay overlay table live.at live.rows live.columns labels)

-- #108: the floor "after overlays are composed"
abbrev pub after_reading : ℕ → List (List ℕ) → ℕ → LiveTable → List ℕ → List ℕ
after_reading year overlays table live labels = after_floor year live.at live.rows live.columns (after_overlays overlays table live labels)

-- only a SCAN pushes a table of the container, onto the stack's top
abbrev pub after_step : ℕ → List (List ℕ) → Step → Stack → List ℕ → List ℕ
after_step year overlays (Scan table) stack labels = after_reading year overlays table (live_table stack 0) labels
after_step year overlays Union stack labels = labels
after_step year overlays (Join left right) stack labels = labels
after_step year overlays (Filter column comparison operand) stack labels = labels
after_step year overlays (Keep mask) stack labels = labels
after_step year overlays (Apply column transform) stack labels = labels
after_step year overlays (Group keys aggregate column) stack labels = labels
after_step year overlays (Noise column) stack labels = labels

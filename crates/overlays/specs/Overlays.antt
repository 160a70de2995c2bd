-- #106: "Up to four overlays are composed onto the tables' labels before step 0, and an empty slice is no overlay."
use Rattle.std.specs.Prelude.{ℕ, suc, cond, List, [], ◌∷◌, eqb, length}
use Rattle.container.specs.Check.{check_input}
use Rattle.input.specs.Verdict.{InputVerdict, accepted, and_then}
use Rattle.layout.specs.Layout.{part_of}
use Rattle.overlay_check.specs.OverlayCheck.{check_overlay}
use Rattle.overlay_part.specs.OverlayPart.{overlaid}
use Rattle.plan.specs.Sheets.{InputTable}

-- "both come after all other input checks, overlay by overlay"
abbrev pub check_overlays : List ℕ → List (List ℕ) → InputVerdict
check_overlays container [] = accepted
check_overlays container (overlay ∷ rest) = and_then (check_overlay container overlay) (check_overlays container rest)

unfoldable pub check_all : List ℕ → List (List ℕ) → InputVerdict
check_all container overlays = and_then (check_input container) (check_overlays container overlays)

-- the tables from one on, each with its part of an overlay
abbrev pub overlaid_from : List ℕ → ℕ → List InputTable → List InputTable
overlaid_from overlay part [] = []
overlaid_from overlay part (table ∷ rest) = overlaid (part_of overlay part) table ∷ overlaid_from overlay (suc part) rest

abbrev pub with_overlay : List ℕ → List InputTable → List InputTable
with_overlay overlay tables = cond (eqb (length overlay) 0) tables (overlaid_from overlay 0 tables)

-- one overlay after the other
abbrev pub with_overlays : List (List ℕ) → List InputTable → List InputTable
with_overlays [] tables = tables
with_overlays (overlay ∷ rest) tables = with_overlays rest (with_overlay overlay tables)

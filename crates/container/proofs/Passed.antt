-- The four checks that an accepted container has passed. Assumes nothing.
use Prim.Native.Nat.{ℕ, ◌-◌}
use mathlib.Core.Path.{◌≡◌}
use mathlib.Core.List.{List}
use Rattle.container.specs.Check.{accepted, check_tables, check_plan_part, check_input_from}
use Rattle.directory.specs.Directory.{check_directory}
use Rattle.layout.specs.Layout.{part_count}
use Rattle.layout_check.specs.Checks.{check_container}
use Rattle.input.proofs.Laws.{both}

pub record Passed (least : ℕ) (bytes : List ℕ) : Type 0 where
  pub container : check_container bytes ≡ accepted
  pub directory : check_directory 12 (part_count bytes) bytes ≡ accepted
  pub tables : check_tables least bytes 1 (part_count bytes - 1) ≡ accepted
  pub plan : check_plan_part bytes ≡ accepted

pub passed : (least : ℕ) (bytes : List ℕ) → check_input_from least bytes ≡ accepted → Passed least bytes
unfolding check_input_from
passed least bytes e =
    let c = both (check_container bytes) _ e in
    let d = both (check_directory 12 (part_count bytes) bytes) _ c.1 in
    let t = both (check_tables least bytes 1 (part_count bytes - 1)) _ d.1 in
    record { container = c.0; directory = d.0; tables = t.0; plan = t.1 }

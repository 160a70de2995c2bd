-- The trial can be called again after each file, and each name so far has an outcome.
use Rattle.std.proofs.Common.{◌≡◌, ℕ, List, length}
use Rattle.std.specs.List.{FoldsTo}
use Rattle.std.specs.Prelude.{Option}
use Rattle.arguments.specs.Runs.{RanIf}
use Rattle.arguments.proofs.for_each.Given as goal

abbrev pub invariant-loop-name : goal.invariant-loop-name
invariant-loop-name g l =
    goal.F-IsAlwaysCallable g l.trial
    × ((tried : List (Option (List ℕ))) × (length tried ≡ l.name-index) × FoldsTo (RanIf g.F.FnMut) l.fn.trial tried l.trial)

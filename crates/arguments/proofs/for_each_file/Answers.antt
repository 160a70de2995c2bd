-- The runs are the outcomes that are not none.
use Rattle.std.proofs.Common.{ℕ, List, [], ◌∷◌, subst, sym}
use Rattle.std.specs.declared.io.Error.{Error}
use Rattle.std.specs.Fn.{Mut}
use Rattle.std.specs.List.{FoldsTo}
use Rattle.std.proofs.lemmas.Result.{on_ok_weaker}
use Rattle.std.specs.Prelude.{Option, Some, None, Result}
use denote.Ref.{Bor}
use Rattle.arguments.specs.Runs.{RanIf, RanOn}
use Rattle.arguments.proofs.for_each_file.Goals as goal

module _ {F : Type 0} (g : Mut F (Bor (List ℕ) × Unit {0}) (Result (Unit {0}) Error)) {last : F} where
  ran : (tried : List (Option (List ℕ))) (first : F) → FoldsTo (RanIf g) first tried last → (runs : List (List ℕ)) × FoldsTo (RanOn g) first runs last
  ran [] first e = ([], e)
  ran (None ∷ tried) first steps =
      let runs = ran tried steps.0 steps.2 in
      (runs.0, subst (λ (from : F). FoldsTo (RanOn g) from runs.0 last) (sym steps.1) runs.1)
  ran (Some bytes ∷ tried) first steps =
      let runs = ran tried steps.0 steps.2 in
      (bytes ∷ runs.0, (steps.0, steps.1, runs.1))

pub returns : goal.returns
returns g c =
    on_ok_weaker c.for_each.result (λ tried. let runs = ran g.F.FnMut tried.0 _ tried.3 in (runs.0, tried.2, runs.1)) c.for_each.ensures

-- A file that could be opened adds a run, another one none.
use Rattle.std.proofs.Common.{◌≡◌, ◌+◌, ℕ, List, [], ◌∷◌, ◌++◌, length, inl, inr, ap, ◌∙◌, length-append}
use Rattle.std.proofs.lemmas.Fn.{FoldsTo-push}
use Rattle.std.specs.declared.io.Error.{Error}
use Rattle.std.specs.Fn.{Mut}
use Rattle.std.specs.List.{FoldsTo}
use Rattle.std.specs.Prelude.{Option, Some, None, Result}
use denote.Ref.{Bor}
use Rattle.arguments.specs.Runs.{RanIf, RanOnce}
use Rattle.arguments.proofs.for_each.Goals as goal

module _ {F : Type 0} (g : Mut F (Bor (List ℕ) × Unit {0}) (Result (Unit {0}) Error)) {next last : F} where
  one_of : RanOnce g next last → (one : Option (List ℕ)) × RanIf g next one last
  one_of (inl e) = (None, e)
  one_of (inr ran) = (Some ran.0, ran.1)

  more : (first : F) (tried : List (Option (List ℕ))) (n : ℕ) → length tried ≡ n → FoldsTo (RanIf g) first tried next → RanOnce g next last
      → (all : List (Option (List ℕ))) × (length all ≡ n + 1) × FoldsTo (RanIf g) first all last
  more first tried n e steps once =
      let one = one_of once in (
        tried ++ (one.0 ∷ []),
        length-append tried (one.0 ∷ []) ∙ ap (λ m. m + 1) e,
        FoldsTo-push (RanIf g) first tried next one.0 last steps one.1,
      )

pub loop-name-preserved : goal.loop-name-preserved
loop-name-preserved g c =
    let before = c.loop-name.invariant.1 in
    (c.in_ok-run_file.ensures.again, more g.F.FnMut _ before.0 _ before.1 before.2 c.in_ok-run_file.ensures.ran)
